use Rattle.std.proofs.Common.{ap, ◌∙◌, arith}
use Rattle.example_cart.specs.Kept.{post_at}
use Rattle.example_cart.proofs.KeptLemmas.{all_posts, one_more}
use Rattle.example_cart.proofs.kept.read_posts.Goals as goal

pub loop-at-preserved : goal.loop-at-preserved
loop-at-preserved c =
    one_more c.loop-at.posts.items c.push.new.self.items c.read_post.result c.args.bytes.now c.args.count c.loop-at.at _ c.in_ok-push.ensures.items
    (c.read_post.ensures ∙ ap post_at c.tail.ensures) (omega arith) c.loop-at.invariant

pub returns : goal.returns
returns c = all_posts c.loop-at.posts.items c.args.bytes.now c.args.count c.loop-at.at _ (omega arith) c.loop-at.invariant
