use Rattle.std.proofs.Common.{ℕ, List, ap, subst, ◌∙◌}
use Rattle.sv_web.specs.Exchange.{Completes}
use Rattle.sv_web.specs.Files.{media_type, sent_as}
use Rattle.sv_web.proofs.files.send_bytes.Goals as goal

pub returns : goal.returns
returns c =
    let web = c.args.web.now in
    let typed = c.media_type.ensures.text ∙ ap media_type c.as_str.ensures.value in
    subst (λ (media : List ℕ). Completes (sent_as media c.args.file.now.bytes.items) web c.send_as.new.web c.send_as.result) typed
    (subst (λ (bytes : List ℕ). Completes (sent_as c.media_type.result.now bytes) web c.send_as.new.web c.send_as.result) c.as_slice.ensures.value c.send_as.ensures)
