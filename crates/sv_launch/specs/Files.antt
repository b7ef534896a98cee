-- Files by where their paths lead.
use Rattle.std.specs.Prelude.{Bool, false, nat_eq, Option, Some, None, ◌&&◌}
use Rattle.std.specs.Str.{bytes_eq}
use Rattle.sv_launch.specs.declared.files.Inode.{Inode}
use Rattle.sv_launch.specs.declared.files.Target.{Target}

-- both are there, with the same number in the same file system
abbrev pub is_one_inode : Option Inode → Option Inode → Bool
is_one_inode None other = false
is_one_inode (Some one) None = false
is_one_inode (Some one) (Some other) = nat_eq one.device other.device && nat_eq one.number other.number

-- the same inode; or no file at either, and the same name in the same folder
abbrev pub is_one_file : Target → Target → Bool
is_one_file one other = one_target one.file other.file
  where
    one_target : Option Inode → Option Inode → Bool
    one_target None None = is_one_inode one.folder other.folder && bytes_eq one.name.now other.name.now
    one_target None (Some b) = false
    one_target (Some a) found = is_one_inode (Some a) found
