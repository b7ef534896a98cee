-- Sessions that have come here of late, each under its key, in the order in which they came.
use Rattle.std.specs.Prelude.{ℕ, ◌++◌, ◌∷◌, [], ◌==◌, ◌&&◌, Bool, false, not, cond, nat_lt, length, List, Option, Some, None, position, remove, slice_get, slice_set}
use Rattle.sv_model.specs.declared.key.Key.{Key}
use Rattle.sv_host.specs.declared.lease.Lease.{Lease}
use Rattle.sv_host.specs.declared.lease.Leases.{Leases}
use Rattle.sv_host.specs.declared.lease.TheConstants.{LEASES}

abbrev pub leases_of : Leases → List Lease
leases_of l = l.leases.items

-- two keys are one
abbrev pub is_key : Key → Key → Bool
is_key a b = (a.home == b.home) && (a.serial == b.serial)

abbrev pub is_of : Key → Lease → Bool
is_of key l = is_key key l.key

abbrev pub at_in : List Lease → Option ℕ → Option Lease
at_in ls None = None
at_in ls (Some at) = slice_get ls at

-- what is known of a session
abbrev pub lease_of : Key → List Lease → Option Lease
lease_of key ls = at_in ls (position (is_of key) ls)

abbrev pub end_in : Option Lease → Option ℕ
end_in None = None
end_in (Some l) = l.end

abbrev pub end_of : Key → List Lease → Option ℕ
end_of key ls = end_in (lease_of key ls)

abbrev pub knows_by : ℕ → Option Lease → Bool
knows_by epoch None = false
knows_by epoch (Some l) = not (nat_lt l.epoch epoch)

abbrev pub knows : Key → ℕ → List Lease → Bool
knows key epoch ls = knows_by epoch (lease_of key ls)

-- it was given away
abbrev pub gone : Lease → Lease
gone l = record { key = l.key; epoch = l.epoch; end = None }

abbrev pub left_at : List Lease → Option ℕ → Option Lease → List Lease
left_at ls None l = ls
left_at ls (Some at) None = ls
left_at ls (Some at) (Some l) = slice_set ls at (gone l)

abbrev pub left : Key → List Lease → List Lease
left key ls = left_at ls (position (is_of key) ls) (lease_of key ls)

-- all others
abbrev pub without_at : List Lease → Option ℕ → List Lease
without_at ls None = ls
without_at ls (Some at) = remove ls at

abbrev pub without : Key → List Lease → List Lease
without key ls = without_at ls (position (is_of key) ls)

-- there is room for one more
abbrev pub few : List Lease → List Lease
few ls = cond (nat_lt (length ls) LEASES) ls (remove ls 0)

-- the last one that has come, and those before it of which there is room
abbrev pub with : Lease → List Lease → List Lease
with l ls = few (without l.key ls) ++ l ∷ []
