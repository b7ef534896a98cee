-- The laws of greetings.
use Rattle.std.proofs.Common.{◌≡◌, ℕ, zero, suc, ◌<◌, ◌^◌, true, List, [], Result, Ok, Err, refl, arith, ap, sym, subst, ◌∙◌}
use Rattle.std.specs.Prelude.{nat_lt, nat_eq, IfOk}
use Rattle.std.specs.Int.{w8, w32}
use Rattle.std.proofs.lemmas.Bool.{eqb-true}
use Rattle.std.proofs.lemmas.List.{append-nil}
use Rattle.std.proofs.lemmas.Bool.Decides.{nat_tests}
use Rattle.sv_record.proofs.Prelude.{RecordFault, ◌>>=◌, Reading, Gives, ended, number, raw, pair, such_that, long, node}
use Rattle.sv_record.specs.declared.greeting.Errand.{Errand}
use Rattle.sv_record.specs.declared.greeting.Errand.TheVariants.{Opening, Serving, Answer, Look}
use Rattle.sv_record.specs.declared.greeting.Greeting.{Greeting}
use Rattle.sv_record.specs.declared.greeting.TheConstants.{GREETING, PAYLOAD_LEN, VERSION, CONTEXTS_LEN}
use Rattle.sv_record.specs.Greeting.{byte_of, errand_of, errand, heads, head, body, greeting, greeting_of, IsGreeting}
use Rattle.sv_record.proofs.FormatLaws.{AreBytes, Lawful, bind_ok, number_lawful, raw_lawful, pair_lawful, seen_as_lawful, such_that_lawful, wide8, wide32}
use Rattle.sv_record.proofs.FieldLaws.{long_lawful, node_lawful}
use Rattle.sv_record.proofs.RangeLemmas.{node_range}
use Rattle.sv_record.proofs.WholeLaws.{ended_ok}

byte_there : (n : ℕ) → (n < 2 ^ 8) × (nat_lt n 4 ≡ true) → byte_of (errand_of n) ≡ n
byte_there zero fits = refl
byte_there (suc zero) fits = refl
byte_there (suc (suc zero)) fits = refl
byte_there (suc (suc (suc zero))) fits = refl
byte_there (suc (suc (suc (suc n)))) fits = absurd (let small : nat_lt (suc (suc (suc (suc n)))) 4 ≡ true = fits.1 in grind (arith, nat_tests))

errand_back : (e : Errand) → errand_of (byte_of e) ≡ e
errand_back Opening = refl
errand_back Serving = refl
errand_back Answer = refl
errand_back Look = refl

errand_lawful : Lawful errand
unfolding errand
errand_lawful = seen_as_lawful (such_that (number w8) (λ n. nat_lt n 4)) errand_of byte_of (such_that_lawful (number w8) (λ n. nat_lt n 4) (number_lawful w8 wide8)) byte_there errand_back

heads_lawful : Lawful heads
heads_lawful =
    pair_lawful _ _ (such_that_lawful (number w8) (λ n. nat_eq n GREETING) (number_lawful w8 wide8))
    (pair_lawful _ _ (such_that_lawful (number w32) (λ n. nat_eq n PAYLOAD_LEN) (number_lawful w32 wide32)) (such_that_lawful (number w8) (λ n. nat_eq n VERSION) (number_lawful w8 wide8)))

heads_there : (a : ℕ × (ℕ × ℕ)) → heads.Fits a → ◌≡◌ {A = ℕ × (ℕ × ℕ)} (GREETING, (PAYLOAD_LEN, VERSION)) a
heads_there a fits = λ i. (sym (eqb-true a.0 GREETING fits.0.1) i, (sym (eqb-true a.1.0 PAYLOAD_LEN fits.1.0.1) i, sym (eqb-true a.1.1 VERSION fits.1.1.1) i))

head_lawful : Lawful head
unfolding head
head_lawful = seen_as_lawful heads (λ _. tt) (λ _. (GREETING, (PAYLOAD_LEN, VERSION))) heads_lawful heads_there (λ b. refl)

body_lawful : Lawful body
body_lawful =
    pair_lawful _ _ (pair_lawful _ _ node_lawful node_lawful)
    (pair_lawful _ _ (pair_lawful _ _ (number_lawful w8 wide8) (pair_lawful _ _ (number_lawful w8 wide8) (number_lawful w8 wide8)))
    (pair_lawful _ _ (pair_lawful _ _ long_lawful (pair_lawful _ _ long_lawful long_lawful)) (raw_lawful CONTEXTS_LEN)))

pub greeting_lawful : Lawful greeting
unfolding greeting
greeting_lawful = seen_as_lawful (pair head (pair errand body)) _ _ (pair_lawful head (pair errand body) head_lawful (pair_lawful errand body errand_lawful body_lawful)) (λ a fits. refl) (λ g. refl)

-- what has a spelling may be written
within : (g : Greeting) → greeting.Fits g → IsGreeting g
unfolding greeting
within g fits = record { from = node_range g.from fits.1.1.0.0; to = node_range g.to fits.1.1.0.1 }

-- what is read may be written
pub read_within : (bytes : List ℕ) (result : Result Greeting RecordFault) → AreBytes bytes → Gives (λ g. g) result (greeting_of bytes) → IfOk result IsGreeting
read_within bytes (Ok g) all gives =
    let x = bind_ok (greeting.read bytes) ended g gives in
    let t = greeting_lawful.takes bytes x.0 all x.1 in
    subst IsGreeting (ended_ok x.0 g x.2).0 (within x.0.0 t.1)
read_within bytes (Err fault) all gives = tt

-- what is written is read
pub read_again : (g : Greeting) → greeting.Fits g → greeting_of (greeting.text g) ≡ Ok g
read_again g fits =
    ap (λ l. greeting.read l >>= ended) (sym (append-nil (greeting.text g))) ∙ ap (λ (r : Reading Greeting). r >>= ended) (greeting_lawful.again g [] fits)
