use Rattle.std.proofs.Common.{◌≡◌, ◌++◌, ◌∷◌, [], ◌-◌, length, arith, rules}
use Rattle.sv_journal.specs.Format.{IsPayload}
use Rattle.sv_journal.proofs.EntryLemmas.{all_push}
use Rattle.sv_journal.proofs.Appending.{added}
use Rattle.sv_journal.proofs.batch.Batch.add.Goals as goal

pub returns-clause-added : goal.returns-clause-added
returns-clause-added c = λ entries stages.
    let size : c.len-size.result - 1 ≡ length c.args.self.now.bytes.items - 1 = search (rules, arith) in
    record {
      payloads = all_push IsPayload entries c.args.payload.now stages.payloads c.requires.payload;
      bytes = added entries c.args.payload.now c.args.self.now.bytes.items c.put_behind_gate.new.bytes.items (c.len-size.result - 1) stages.bytes size c.in_default.ensures.put;
    }

pub returns-clause-batch : goal.returns-clause-batch
returns-clause-batch c = let old = c.requires.batch in (old.0 ++ c.args.payload.now ∷ [], returns-clause-added c old.0 old.1)
