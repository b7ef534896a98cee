-- Greetings: what nodes say to each other of themselves. All have as many bytes.
use Rattle.std.specs.Prelude.{◌≡◌, ◌<◌, ◌^◌, ℕ, List, length, Result, ◌==◌, nat_lt, if◌then◌else◌}
use Rattle.std.specs.Int.{w8, w32}
use Rattle.sv_model.specs.Keys.{IsNode}
use Rattle.sv_record.specs.declared.fault.RecordFault.{RecordFault}
use Rattle.sv_record.specs.declared.greeting.Errand.{Errand}
use Rattle.sv_record.specs.declared.greeting.Errand.TheVariants.{Opening, Serving, Answer, Look}
use Rattle.sv_record.specs.declared.greeting.Greeting.{Greeting}
use Rattle.sv_record.specs.declared.greeting.TheConstants.{GREETING, PAYLOAD_LEN, VERSION, CONTEXTS_LEN}
use Rattle.sv_record.specs.Reading.{◌>>=◌, ended}
use Rattle.sv_record.specs.Format.{Format, number, raw, pair, such_that, seen_as}
use Rattle.sv_record.specs.Field.{long, node}

-- the byte that stands for an errand
abbrev pub byte_of : Errand → ℕ
byte_of Opening = 0
byte_of Serving = 1
byte_of Answer = 2
byte_of Look = 3

abbrev pub errand_of : ℕ → Errand
errand_of n = if n == 0 then Opening else if n == 1 then Serving else if n == 2 then Answer else Look

unfoldable pub errand : Format Errand
errand = seen_as (such_that (number w8) (λ n. nat_lt n 4)) errand_of byte_of

-- the mark, how many bytes are after this number, and the version
abbrev pub heads : Format (ℕ × (ℕ × ℕ))
heads = pair (such_that (number w8) (λ n. n == GREETING)) (pair (such_that (number w32) (λ n. n == PAYLOAD_LEN)) (such_that (number w8) (λ n. n == VERSION)))

-- the same of all greetings
unfoldable pub head : Format (Unit {0})
head = seen_as heads (λ _. tt) (λ _. (GREETING, (PAYLOAD_LEN, VERSION)))

-- of whom and to whom
abbrev pub ends : Format (ℕ × ℕ)
ends = pair node node

-- how many nodes it was told of, and below which number the nodes are whose sessions it has, and whose it or another has
abbrev pub told : Format (ℕ × (ℕ × ℕ))
told = pair (number w8) (pair (number w8) (number w8))

-- its start, the other's that it has heard of, and the clock
abbrev pub counts : Format (ℕ × (ℕ × ℕ))
counts = pair long (pair long long)

-- what it says
abbrev pub body : Format ((ℕ × ℕ) × ((ℕ × (ℕ × ℕ)) × ((ℕ × (ℕ × ℕ)) × List ℕ)))
body = pair ends (pair told (pair counts (raw CONTEXTS_LEN)))

abbrev pub body_of : Greeting → (ℕ × ℕ) × ((ℕ × (ℕ × ℕ)) × ((ℕ × (ℕ × ℕ)) × List ℕ))
body_of g = ((g.from, g.to), ((g.nodes, (g.homes, g.all_homes)), ((g.start, (g.heard, g.clock)), g.contexts)))

unfoldable pub greeting : Format Greeting
greeting = seen_as (pair head (pair errand body))
    (λ p. record {
      errand = p.1.0;
      from = p.1.1.0.0;
      to = p.1.1.0.1;
      nodes = p.1.1.1.0.0;
      homes = p.1.1.1.0.1.0;
      all_homes = p.1.1.1.0.1.1;
      start = p.1.1.1.1.0.0;
      heard = p.1.1.1.1.0.1.0;
      clock = p.1.1.1.1.0.1.1;
      contexts = p.1.1.1.1.1;
    })
    (λ g. (tt, (g.errand, body_of g)))

-- the greeting that all of the bytes are, or the first trouble
abbrev pub greeting_of : List ℕ → Result Greeting RecordFault
greeting_of bytes = greeting.read bytes >>= ended

-- one that may be written
pub record IsGreeting (g : Greeting) : Type 0 where
  pub from : IsNode g.from
  pub to : IsNode g.to
