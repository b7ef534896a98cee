use Rattle.sv_host.proofs.Prelude.{◌≡◌, ◌≤◌, ◌++◌, ◌∷◌, [], ℕ, List, ap, sym, ◌∙◌, subst, AllByRecursion, IsInput, Input, Moment, all_given, RiseIn, numbers_in}
use Rattle.sv_host.proofs.Prelude.{number_in}
use Rattle.sv_node.proofs.HistoryLemmas.{lower_input, lower_number}
use Rattle.sv_host.proofs.GroupLemmas.{all_within, rises_on, number_on}
use Rattle.sv_host.proofs.group.Group.add.Goals as goal

pub returns-clause-rising : goal.returns-clause-rising
returns-clause-rising c =
    let old = c.args.self.now in
    let is = old.inputs.items in
    let i : Moment × Input = (c.args.moment, c.args.input) in
    let items : c.push_reserved.new.self.items ≡ is ++ i ∷ [] = c.push_reserved.ensures.items ∙ ap (λ (xs : List (Moment × Input)). xs ++ i ∷ []) c.reserve.ensures.same.inputs in
    let before = c.reserve.ensures.before in
    let last : numbers_in old.before (all_given is) ≤ old.number = c.requires.rising.number in
    let number_is : number_in old.number c.args.input ≡ c.number_with-self.result = ap (λ (n : ℕ). number_in n c.args.input) (sym c.reserve.ensures.same.number) ∙ sym c.number_with-self.ensures in
    record {
      within = subst (λ (xs : List (Moment × Input)). AllByRecursion (λ x. IsInput x.1) xs) (sym items) (all_within is i c.requires.rising.within c.requires.input);
      rises = subst (λ (xs : List (Moment × Input)). RiseIn c.reserve.new.self.before (all_given xs)) (sym items)
          (subst (λ (b : ℕ). RiseIn b (all_given (is ++ i ∷ []))) (sym before)
          (rises_on old.before is i c.requires.rising.rises (lower_input (numbers_in old.before (all_given is)) old.number c.args.input last c.requires.above)));
      number = subst (λ (n : ℕ). n ≤ c.number_with-self.result) (sym (number_on old.before is i) ∙ (λ j. numbers_in (sym before j) (all_given (sym items j))))
          (subst (λ (n : ℕ). number_in (numbers_in old.before (all_given is)) c.args.input ≤ n) number_is (lower_number (numbers_in old.before (all_given is)) old.number c.args.input last));
    }
