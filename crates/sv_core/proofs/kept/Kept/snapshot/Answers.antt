use Rattle.sv_core.proofs.Prelude.{◌++◌, ◌∷◌, [], length, map, sym, ap, subst, ◌∙◌, Directory, AreWithin, seen, places_in, node_of, state_record}
use Rattle.sv_core.specs.Snapshot.{head_of}
use Rattle.sv_core.proofs.DirectoryLemmas.{front_within, back_within}
use Rattle.sv_core.proofs.SnapshotLemmas.{states_joined}
use Rattle.sv_core.proofs.TableLemmas.{entries_are}
use Rattle.sv_core.proofs.kept.Kept.snapshot.Goals as goal

pub add_states-requires : goal.add_states-requires
add_states-requires c =
    let t = c.args.self.now.keys in
    subst (AreWithin (length t.states.items)) (sym (c.low.ensures ∙ ap (λ (d : Directory). d.low.items) c.places.ensures)) (front_within (length t.states.items) t.places.low.items t.places.high.items t.within)

pub add_states-requires-2 : goal.add_states-requires-2
add_states-requires-2 c =
    let t = c.args.self.now.keys in
    subst (AreWithin (length t.states.items)) (sym (c.high.ensures ∙ ap (λ (d : Directory). d.high.items) c.places-2.ensures)) (back_within (length t.states.items) t.places.low.items t.places.high.items t.within)

pub returns : goal.returns
returns c =
    let k = c.args.self.now in
    let t = k.keys in
    states_joined t.states.items t.places.low.items t.places.high.items (head_of (node_of k).durable) c.push.new.self.items c.add_states.new.records.items c.add_states-2.new.records.items
    (c.in_ok-push.ensures.items ∙ (λ i. c.new-records.ensures.items i ++ c.head.ensures i ∷ []))
    (c.in_ok-add_states.ensures ∙ ap (λ l. c.push.new.self.items ++ map state_record (seen t.states.items l)) (c.low.ensures ∙ ap (λ (d : Directory). d.low.items) c.places.ensures))
    (c.in_ok-add_states-2.ensures ∙ ap (λ l. c.add_states.new.records.items ++ map state_record (seen t.states.items l)) (c.high.ensures ∙ ap (λ (d : Directory). d.high.items) c.places-2.ensures))
    ∙ ap (λ l. head_of (node_of k).durable ∷ map state_record l) (sym (entries_are t.states.items (places_in t.places) t.places.rises))
