use Rattle.sv_core.proofs.Prelude.{◌++◌, sym, ap, subst, ◌∙◌, Rises, AreLow, AreHigh, places_in}
use Rattle.sv_core.proofs.EraseLemmas.{erase_rises}
use Rattle.sv_core.proofs.DirectoryLemmas.{front_rises, back_rises, erase_low, low_erased, erase_high, high_erased}
use Rattle.sv_core.proofs.directory.Directory.remove.Goals as goal

pub remove-requires : goal.remove-requires
remove-requires c = let d = c.args.self.now in front_rises d.low.items d.high.items d.rises

pub remove-requires-else-key-self : goal.remove-requires-else-key-self
remove-requires-else-key-self c = let d = c.args.self.now in back_rises d.low.items d.high.items d.rises

pub invariant_of-self : goal.invariant_of-self
invariant_of-self c =
    let d = c.args.self.now in
    record {
      rises = subst Rises (erase_low d.home c.args.key d.low.items d.high.items c.if-key-self.true d.above_home ∙ ap (λ l. l ++ d.high.items) (sym c.remove.ensures.items))
          (erase_rises c.args.key (places_in d) d.rises);
      up_to_home = subst (AreLow d.home) (sym c.remove.ensures.items) (low_erased d.home c.args.key d.low.items d.up_to_home);
      above_home = d.above_home;
    }

pub invariant_of-self-else-key-self : goal.invariant_of-self-else-key-self
invariant_of-self-else-key-self c =
    let d = c.args.self.now in
    record {
      rises = subst Rises (erase_high d.home c.args.key d.low.items d.high.items c.if-key-self.false d.up_to_home ∙ ap (λ l. d.low.items ++ l) (sym c.remove-else-key-self.ensures.items))
          (erase_rises c.args.key (places_in d) d.rises);
      up_to_home = d.up_to_home;
      above_home = subst (AreHigh d.home) (sym c.remove-else-key-self.ensures.items) (high_erased d.home c.args.key d.high.items d.above_home);
    }

pub returns-then-key-self-clause-places : goal.returns-then-key-self-clause-places
returns-then-key-self-clause-places c =
    let d = c.args.self.now in
    ap (λ l. l ++ d.high.items) c.remove.ensures.items ∙ sym (erase_low d.home c.args.key d.low.items d.high.items c.if-key-self.true d.above_home)

pub returns-else-key-self-clause-places : goal.returns-else-key-self-clause-places
returns-else-key-self-clause-places c =
    let d = c.args.self.now in
    ap (λ l. d.low.items ++ l) c.remove-else-key-self.ensures.items ∙ sym (erase_high d.home c.args.key d.low.items d.high.items c.if-key-self.false d.up_to_home)
