use Rattle.sv_net.proofs.Prelude.{inl, inr, refl, went_of, IsOnItsWay}
use Rattle.sv_net.proofs.SendingLemmas.{admits_more, on_its_way, same_among, went_whole}
use Rattle.sv_net.proofs.connections.Connections.call.Goals as goal

-- it is sent
pub returns-in-All-clause-sends : goal.returns-in-All-clause-sends
returns-in-All-clause-sends c =
    inl (record {
      link = record { node = c.args.link.node; socket = c.write.new.self; since = c.args.link.since };
      sent = record { node = refl; went = went_whole c.args.link.socket c.write.new.self c.args.frame.items c.write.new.text.items c.write.ensures.left (c.write.ensures.all c.in-All.is) };
      links = c.keep.ensures;
      people = λ q. refl;
    })

-- some of it waits
pub returns-in-Part-clause-sends : goal.returns-in-Part-clause-sends
returns-in-Part-clause-sends c =
    inr (inl (record {
      links = same_among _ _ c.keep_call.ensures.links;
      people =
          admits_more _ (IsOnItsWay c.args.link.node (went_of c.args.link.socket) c.args.frame.items) c.args.self.now c.keep_call.new.self
          (λ h on. on_its_way c.args.link.node c.args.link.socket c.write.new.self c.args.frame.items c.write.new.text h c.write.ensures.left on) c.keep_call.ensures.admits;
    }))

-- it is lost
pub returns-in-Broken-clause-sends : goal.returns-in-Broken-clause-sends
returns-in-Broken-clause-sends c = inr (inr (record { links = same_among _ _ refl; people = λ q. refl }))
