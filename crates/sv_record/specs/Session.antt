-- A session as it is spelled: its fields, and its attributes in order of their names.
use Rattle.std.specs.Prelude.{ℕ, ◌+◌, Bool, List, [], length, nat_lt, nat_le, ◌&&◌}
use Rattle.std.specs.Int.{w8, w16}
use Rattle.std.specs.Str.{is_utf8}
use Rattle.std.specs.Ordering.{nat_cmp, is_lt}
use Rattle.std.specs.Cmp.Lexicographic.{slice_cmp}
use Rattle.sv_model.specs.declared.session.Session.{Session}
use Rattle.sv_model.specs.declared.session.TheConstants.{CONTEXT_LIMIT, ATTRIBUTE_LIMIT, NAME_LIMIT}
use Rattle.sv_record.specs.declared.version.Version.{Version}
use Rattle.sv_record.specs.Format.{Format, number, raw, chain, pair, such_that, seen_as, sized, counted}
use Rattle.sv_record.specs.Field.{long, signed, flag}
use Rattle.sv_record.specs.Version.{value_width, value_limit, session_limit}

-- a name's bytes and a value's
abbrev pub Attribute : Type 0
Attribute = List ℕ × List ℕ

-- the name before, at first the empty text, which each name is above; and the bytes of names and values so far
pub record Before : Type 0 where
  pub last : List ℕ
  pub total : ℕ

-- before the first attribute
abbrev pub at_first : Before
at_first = record { last = []; total = 0 }

-- after one more attribute
abbrev pub behind : Before → Attribute → Before
behind before a = record { last = a.0; total = before.total + length a.0 + length a.1 }

-- a is before b in the order of bytes
abbrev pub is_below : List ℕ → List ℕ → Bool
is_below a b = is_lt (slice_cmp nat_cmp a b)

-- a name of this length may stand there
abbrev pub is_name_length : Version → ℕ → ℕ → Bool
is_name_length v total n = nat_lt 0 n && nat_le n NAME_LIMIT && nat_le (total + n) (session_limit v)

-- a value of this length may stand there
abbrev pub is_value_length : Version → ℕ → ℕ → Bool
is_value_length v total n = nat_le n (value_limit v) && nat_le (total + n) (session_limit v)

-- a text above the name before
unfoldable pub name : Version → Before → Format (List ℕ)
name v before = such_that (sized w16 (is_name_length v before.total)) (λ text. is_utf8 text && is_below before.last text)

-- a value after so many bytes of names and values
unfoldable pub value : Version → ℕ → Format (List ℕ)
value v total = sized (value_width v) (is_value_length v total)

-- a name and its value
unfoldable pub attribute : Version → Before → Format Attribute
attribute v before = chain (name v before) (λ text. value v (before.total + length text))

-- a count, and the attributes in order of their names
unfoldable pub attributes : Version → Format (List Attribute)
attributes v = counted w16 ATTRIBUTE_LIMIT at_first (attribute v) behind

-- the number of a context
unfoldable pub context : Format ℕ
context = such_that (number w8) (λ n. nat_lt n CONTEXT_LIMIT)

-- the secret, the context, when it was made and last named, the interval, whether it is fresh, the attributes
unfoldable pub session : Version → Format Session
session v = seen_as (pair (raw 16) (pair context (pair long (pair long (pair signed (pair flag (attributes v)))))))
    (λ p. record {
      secret = record { 0 = p.0 };
      context = p.1.0;
      created = p.1.1.0;
      last = p.1.1.1.0;
      interval = p.1.1.1.1.0;
      fresh = p.1.1.1.1.1.0;
      attributes = p.1.1.1.1.1.1;
    })
    (λ s. (s.secret.0, (s.context, (s.created, (s.last, (s.interval, (s.fresh, s.attributes)))))))
