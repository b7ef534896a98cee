-- Two requests of one content ask the same.
use Rattle.std.proofs.Common.{◌≡◌, refl, sym, ap, ◌∙◌, ℕ, ◌^◌, ◌<◌, ◌≤◌, true, List, [], ◌++◌, length, drop, append_assoc, Option, Some, None, arith}
use Rattle.std.specs.Prelude.{take, unwrap_or}
use Rattle.std.specs.Int.{w64, from_be_bytes}
use Rattle.std.proofs.Math.Seq.{drop-append_seam, take-append_seam}
use Rattle.std.proofs.lemmas.Bool.Decides.{nat_tests}
use Rattle.std.proofs.lemmas.List.{length-take}
use Rattle.std.proofs.lemmas.Nat.{from_be_bytes-to_be_bytes_8}
use Rattle.sv_model.specs.declared.request.Request.{Request}
use Rattle.sha2.specs.Sha256.{sha256}
use Rattle.sv_once.specs.Asked.{HasLengths, IsSameAsk, content_of, is_key, mark_of, part, query_part}

module _ (s t x y : List ℕ) (s_small : length s < 2 ^ 64) (t_small : length t < 2 ^ 64) (same : part s ++ x ≡ part t ++ y) where
  lengths : length s ≡ length t
  lengths = sym (from_be_bytes-to_be_bytes_8 (length s) s_small) ∙ ap (from_be_bytes w64) same ∙ from_be_bytes-to_be_bytes_8 (length t) t_small

  texts : s ++ x ≡ t ++ y
  texts = ap (drop 8) same

  pub part_text : s ≡ t
  part_text = sym (take-append_seam s x) ∙ ap (take (length s)) texts ∙ ap (λ (n : ℕ). take n (t ++ y)) lengths ∙ take-append_seam t y

  pub part_rest : x ≡ y
  part_rest = sym (drop-append_seam s x) ∙ ap (drop (length s)) texts ∙ ap (λ (n : ℕ). drop n (t ++ y)) lengths ∙ drop-append_seam t y

abbrev Parts : Option (List ℕ) → Option (List ℕ) → List ℕ → List ℕ → Type 0
Parts q p x y = (q ≡ p) × (x ≡ y)

query_told : (q p : Option (List ℕ)) (x y : List ℕ) → length (unwrap_or q []) < 2 ^ 64 → length (unwrap_or p []) < 2 ^ 64
    → query_part q ++ x ≡ query_part p ++ y → Parts q p x y
query_told None None x y qs ps same = (refl, ap (drop 1) same)
query_told None (Some p) x y qs ps same = absurd (cc)
query_told (Some q) None x y qs ps same = absurd (cc)
query_told (Some q) (Some p) x y qs ps same =
    let rest : part q ++ x ≡ part p ++ y = ap (drop 1) same in
    (ap Some (part_text q p x y qs ps rest), part_rest q p x y qs ps rest)

four : (a b c d : List ℕ) → ((a ++ b) ++ c) ++ d ≡ a ++ (b ++ (c ++ d))
four a b c d = simp append_assoc

pub same_ask : (a b : Request) → HasLengths a → HasLengths b → content_of a ≡ content_of b → IsSameAsk a b
unfolding content_of
same_ask a b one other same =
    let x2 : List ℕ = query_part a.query ++ a.body in
    let y2 : List ℕ = query_part b.query ++ b.body in
    let x1 : List ℕ = part a.raw_path ++ x2 in
    let y1 : List ℕ = part b.raw_path ++ y2 in
    let whole : part a.method ++ x1 ≡ part b.method ++ y1 =
    sym (four (part a.method) (part a.raw_path) (query_part a.query) a.body) ∙ same ∙ four (part b.method) (part b.raw_path) (query_part b.query) b.body in
    let path_on : x1 ≡ y1 = part_rest a.method b.method x1 y1 one.method other.method whole in
    let query_on : x2 ≡ y2 = part_rest a.raw_path b.raw_path x2 y2 one.path other.path path_on in
    let told : Parts a.query b.query a.body b.body = query_told a.query b.query a.body b.body one.query other.query query_on in
    record {
      method = part_text a.method b.method x1 y1 one.method other.method whole;
      path = part_text a.raw_path b.raw_path x2 y2 one.path other.path path_on;
      query = told.0;
      body = told.1;
    }

pub mark_small : (r : Request) → length (mark_of r) ≤ 16
unfolding mark_of
mark_small r = omega (arith, length-take 16 (sha256 (content_of r)))

pub key_small : (key : List ℕ) → is_key key ≡ true → length key ≤ 64
key_small key is = grind (arith, nat_tests)
