-- What has left of a text, and what is left of it.
use Rattle.sv_net.proofs.Prelude.{◌≡◌, ℕ, List, ◌++◌, take, ap, sym, ◌∙◌, append_assoc, Leaves, came_of, went_of, Socket}
use Rattle.std.proofs.Common.{drop}
use Rattle.std.proofs.lemmas.List.{take-append-drop}

-- so much of its front
pub leaves_some : (was now : Socket) (text left : List ℕ) (count : ℕ) → left ≡ drop count text → came_of now ≡ came_of was → went_of now ≡ went_of was ++ take count text → Leaves was now text left
leaves_some was now text left count cut came went =
    record {
      rest = (take count text, sym (take-append-drop count text) ∙ ap (λ xs. take count text ++ xs) (sym cut));
      said = (λ i. went i ++ cut i) ∙ append_assoc (went_of was) (take count text) (drop count text) ∙ ap (λ xs. went_of was ++ xs) (take-append-drop count text);
      came = came;
    }

-- more of it
pub leaves_more : (was mid now : Socket) (text some left : List ℕ) → Leaves was mid text some → Leaves mid now some left → Leaves was now text left
leaves_more was mid now text some left first next =
    record {
      rest = (
        first.rest.0 ++ next.rest.0,
        first.rest.1 ∙ ap (λ xs. first.rest.0 ++ xs) next.rest.1 ∙ sym (append_assoc first.rest.0 next.rest.0 left),
      );
      said = next.said ∙ first.said;
      came = next.came ∙ first.came;
    }
