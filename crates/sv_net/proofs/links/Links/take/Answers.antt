use Rattle.sv_net.proofs.Prelude.{refl}
use Rattle.sv_net.specs.Sending.{links_in}
use Rattle.sv_net.proofs.SendingLemmas.{same_among, taken_among, taken_link}
use Rattle.sv_net.proofs.links.Links.take.Goals as goal

pub returns-in_err-at-clause-others : goal.returns-in_err-at-clause-others
returns-in_err-at-clause-others c = same_among (links_in c.args.self.now) _ refl

-- it is too old
pub returns-then-ge-clause-others : goal.returns-then-ge-clause-others
returns-then-ge-clause-others c =
    taken_among c.as_slice.result.now (links_in c.args.self.now) _ c.in_ok-at.at c.swap_remove-link.result c.as_slice.ensures.value c.in_ok-at.ensures.within c.swap_remove-link.ensures.value
    c.swap_remove-link.ensures.items

pub returns-in-Open-clause-link : goal.returns-in-Open-clause-link
returns-in-Open-clause-link c =
    taken_link c.args.node c.in_ok-at.at c.as_slice.result.now (links_in c.args.self.now) c.swap_remove-link.result _ c.as_slice.ensures.value c.in_ok-at.ensures.position c.in_ok-at.ensures.within
    c.swap_remove-link.ensures.value refl c.sign.ensures.went

pub returns-in-Open-clause-others : goal.returns-in-Open-clause-others
returns-in-Open-clause-others c =
    taken_among c.as_slice.result.now (links_in c.args.self.now) _ c.in_ok-at.at c.swap_remove-link.result c.as_slice.ensures.value c.in_ok-at.ensures.within c.swap_remove-link.ensures.value
    c.swap_remove-link.ensures.items

-- nobody is at its other end
pub returns-in-Ended : goal.returns-in-Ended
returns-in-Ended c = record {
  link = tt;
  others =
      taken_among c.as_slice.result.now (links_in c.args.self.now) _ c.in_ok-at.at c.swap_remove-link.result c.as_slice.ensures.value c.in_ok-at.ensures.within c.swap_remove-link.ensures.value
      c.swap_remove-link.ensures.items;
}
