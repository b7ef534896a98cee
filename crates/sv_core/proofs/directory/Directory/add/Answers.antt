use Rattle.sv_core.proofs.Prelude.{◌++◌, sym, ap, subst, ◌∙◌, Rises, AreLow, AreHigh, places_in}
use Rattle.sv_core.proofs.PlaceLemmas.{put_rises}
use Rattle.sv_core.proofs.DirectoryLemmas.{front_rises, back_rises, put_low, low_put, put_high, high_put}
use Rattle.sv_core.proofs.directory.Directory.add.Goals as goal

pub add-requires-clause-rises : goal.add-requires-clause-rises
add-requires-clause-rises c = let d = c.args.self.now in front_rises d.low.items d.high.items d.rises

pub add-requires-else-key-self-clause-rises : goal.add-requires-else-key-self-clause-rises
add-requires-else-key-self-clause-rises c = let d = c.args.self.now in back_rises d.low.items d.high.items d.rises

pub invariant_of-self : goal.invariant_of-self
invariant_of-self c =
    let d = c.args.self.now in
    record {
      rises = subst Rises (put_low d.home c.args.key c.args.place d.low.items d.high.items c.if-key-self.true d.above_home ∙ ap (λ l. l ++ d.high.items) (sym c.add.ensures.items))
          (put_rises c.args.key c.args.place (places_in d) d.rises);
      up_to_home = subst (AreLow d.home) (sym c.add.ensures.items) (low_put d.home c.args.key c.args.place d.low.items c.if-key-self.true d.up_to_home);
      above_home = d.above_home;
    }

pub invariant_of-self-else-key-self : goal.invariant_of-self-else-key-self
invariant_of-self-else-key-self c =
    let d = c.args.self.now in
    record {
      rises = subst Rises (put_high d.home c.args.key c.args.place d.low.items d.high.items c.if-key-self.false d.up_to_home ∙ ap (λ l. d.low.items ++ l) (sym c.add-else-key-self.ensures.items))
          (put_rises c.args.key c.args.place (places_in d) d.rises);
      up_to_home = d.up_to_home;
      above_home = subst (AreHigh d.home) (sym c.add-else-key-self.ensures.items) (high_put d.home c.args.key c.args.place d.high.items c.if-key-self.false d.above_home);
    }

pub returns-then-key-self-clause-places : goal.returns-then-key-self-clause-places
returns-then-key-self-clause-places c =
    let d = c.args.self.now in
    ap (λ l. l ++ d.high.items) c.add.ensures.items ∙ sym (put_low d.home c.args.key c.args.place d.low.items d.high.items c.if-key-self.true d.above_home)

pub returns-else-key-self-clause-places : goal.returns-else-key-self-clause-places
returns-else-key-self-clause-places c =
    let d = c.args.self.now in
    ap (λ l. d.low.items ++ l) c.add-else-key-self.ensures.items ∙ sym (put_high d.home c.args.key c.args.place d.low.items d.high.items c.if-key-self.false d.up_to_home)
