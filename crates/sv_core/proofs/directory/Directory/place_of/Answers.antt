use Rattle.sv_core.proofs.Prelude.{sym, ap, subst, ◌∙◌, find, key_cmp, Rises}
use Rattle.sv_core.proofs.DirectoryLemmas.{front_rises, back_rises, find_low, find_high}
use Rattle.sv_core.proofs.directory.Directory.place_of.Goals as goal

pub place_of-requires : goal.place_of-requires
place_of-requires c = let d = c.args.self.now in subst Rises (sym c.deref.ensures.value) (front_rises d.low.items d.high.items d.rises)

pub place_of-requires-else-key-self : goal.place_of-requires-else-key-self
place_of-requires-else-key-self c = let d = c.args.self.now in subst Rises (sym c.deref-else-key-self.ensures.value) (back_rises d.low.items d.high.items d.rises)

pub returns-then-key-self : goal.returns-then-key-self
returns-then-key-self c =
    let d = c.args.self.now in
    c.place_of.ensures ∙ ap (find key_cmp c.args.key) c.deref.ensures.value ∙ sym (find_low d.home c.args.key d.low.items d.high.items c.if-key-self.true d.above_home)

pub returns-else-key-self : goal.returns-else-key-self
returns-else-key-self c =
    let d = c.args.self.now in
    c.place_of-else-key-self.ensures ∙ ap (find key_cmp c.args.key) c.deref-else-key-self.ensures.value ∙ sym (find_high d.home c.args.key d.low.items d.high.items c.if-key-self.false d.up_to_home)
