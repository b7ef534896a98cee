-- The fields that stand in many places.
use Rattle.std.specs.Prelude.{ℕ, ℤ, Bool, Ok, ◌==◌, nat_lt, if◌then◌else◌}
use Rattle.std.specs.Int.{w8, w32, w64, to_be_bytes, cast_signed, cast_unsigned}
use Rattle.std.specs.Int.RustNames.{FitsSigned}
use Rattle.sv_model.specs.declared.key.Key.{Key}
use Rattle.sv_model.specs.declared.key.TheConstants.{NODE_LIMIT}
use Rattle.sv_record.specs.Reading.{◌>>=◌, number_at}
use Rattle.sv_record.specs.Format.{Format, number, pair, such_that, seen_as}

-- a number of 8 bytes: a boot, a want, a moment in seconds
unfoldable pub long : Format ℕ
long = number w64

-- a number of 8 bytes that isn't 0: an epoch, a serial
unfoldable pub counting : Format ℕ
counting = such_that long (λ n. nat_lt 0 n)

-- the number of a node, below 8
unfoldable pub node : Format ℕ
node = such_that (number w8) (λ n. nat_lt n NODE_LIMIT)

-- a session's name in the cluster: its home and its serial
unfoldable pub key : Format Key
key = seen_as (pair node counting) (λ p. record { home = p.0; serial = p.1 }) (λ k. (k.home, k.serial))

-- 0 or 1
unfoldable pub flag : Format Bool
flag = seen_as (such_that (number w8) (λ n. nat_lt n 2)) (λ n. n == 1) (λ b. if b then 1 else 0)

-- a number of 4 bytes in two's complement
unfoldable pub signed : Format ℤ
signed = record {
  text = λ z. to_be_bytes w32 (cast_unsigned w32 z);
  Fits = FitsSigned w32;
  read = λ bytes. number_at w32 bytes >>= λ n. Ok (cast_signed w32 n.0, n.1);
}
