-- Text in HTML (HTML Living Standard, section "Character references").
use Rattle.std.specs.Prelude.{◌≡◌, ℕ, ◌==◌, ◌||◌, not, Bool, false, Result, Ok, Err, List, [], ◌∷◌, ◌++◌, codes, if◌then◌else◌}
use Rattle.std.specs.List.{flat_map}
use Rattle.sv_servlet.specs.ReplyState.{ReplyState}
use Rattle.sv_servlet.specs.declared.reply.ReplyFault.{ReplyFault}
use Rattle.sv_servlet.specs.declared.reply.ReplyFault.TheVariants.{BadStatus, BadHeader, Reserved, TooMany, TooLong, Memory}
use Rattle.sv_servlet.specs.declared.servlet.Next.{Next}
use Rattle.sv_web.specs.Steps.{write}
use Rattle.sv_web.specs.Work.{Work}

-- `<`, `>`, `&`, `"` and `'` by a reference, and every other byte as it is
abbrev pub escaped_byte : ℕ → List ℕ
escaped_byte c =
    if c == 60 then codes "&lt;" else if c == 62 then codes "&gt;" else if c == 38 then codes "&amp;" else if c == 34 then codes "&quot;" else if c == 39 then
    codes "&#39;" else c ∷ []

-- a text, byte by byte
unfoldable pub escaped : List ℕ → List ℕ
escaped text = flat_map escaped_byte text

-- a text is shown, whatever is in it
abbrev pub write_escaped : List ℕ → Work Next → Work Next
write_escaped text more = write (escaped text) more

-- what is answered where an escaped text is written, and what is left: what is expected, or Memory, which may be refused for the
-- references; after a fault the reply is as it was
abbrev pub WritesEscaped : ReplyState → Result ReplyState ReplyFault → Result (Unit {0}) ReplyFault → ReplyState → Type 0
WritesEscaped old expected (Ok u) new = expected ≡ Ok new
WritesEscaped old expected (Err Memory) new = new ≡ old
WritesEscaped old expected (Err BadStatus) new = (expected ≡ Err BadStatus) × (new ≡ old)
WritesEscaped old expected (Err BadHeader) new = (expected ≡ Err BadHeader) × (new ≡ old)
WritesEscaped old expected (Err Reserved) new = (expected ≡ Err Reserved) × (new ≡ old)
WritesEscaped old expected (Err TooMany) new = (expected ≡ Err TooMany) × (new ≡ old)
WritesEscaped old expected (Err TooLong) new = (expected ≡ Err TooLong) × (new ≡ old)

-- a byte that is markup where it stands by itself
abbrev pub is_special : ℕ → Bool
is_special c = (c == 60) || (c == 62) || (c == 38) || (c == 34) || (c == 39)

-- `Reads html text`: what stands there is read as the text, and as no markup
pub data Reads : List ℕ → List ℕ → Type 0 where
  Nothing : Reads [] []
  Plain : (c : ℕ) (html text : List ℕ) → is_special c ≡ false → Reads html text → Reads (c ∷ html) (c ∷ text)
  Less : (html text : List ℕ) → Reads html text → Reads (codes "&lt;" ++ html) (60 ∷ text)
  Greater : (html text : List ℕ) → Reads html text → Reads (codes "&gt;" ++ html) (62 ∷ text)
  Ampersand : (html text : List ℕ) → Reads html text → Reads (codes "&amp;" ++ html) (38 ∷ text)
  Quote : (html text : List ℕ) → Reads html text → Reads (codes "&quot;" ++ html) (34 ∷ text)
  Apostrophe : (html text : List ℕ) → Reads html text → Reads (codes "&#39;" ++ html) (39 ∷ text)

-- a byte with which no markup begins or ends
abbrev pub is_harmless : ℕ → Bool
is_harmless c = not ((c == 60) || (c == 62) || (c == 34) || (c == 39))
