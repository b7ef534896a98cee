-- The words of the command line.
use Rattle.std.specs.Prelude.{ℕ, Bool, false, List, [], ◌∷◌, drop, codes, Option, Some, None, option_map, Result, Ok, Err, if◌then◌else◌, ◌||◌}
use Rattle.std.specs.Str.{bytes_eq}
use Rattle.sv_connection.specs.declared.reply.Naming.{Naming}
use Rattle.sv_connection.specs.declared.reply.Naming.TheVariants.{InBody, InField}
use Rattle.sv_net.specs.declared.persistence.Persistence.{Persistence}
use Rattle.sv_net.specs.declared.persistence.Persistence.TheVariants.{Single, Kept}
use Rattle.sv_journal.specs.declared.file_disk.IfMissing.{IfMissing}
use Rattle.sv_journal.specs.declared.file_disk.IfMissing.TheVariants.{Make, Refuse}
use Rattle.sv_host.specs.declared.paths.IfLocked.{IfLocked}
use Rattle.sv_host.specs.declared.paths.IfLocked.TheVariants.{End, Wait}
use Rattle.sv_web.specs.Numeral.{number_in}
use Rattle.sv_launch.specs.declared.words.Words.{Words}
use Rattle.sv_launch.specs.declared.words.Words.TheVariants.{Once, Node, Help, Version}
use Rattle.sv_launch.specs.declared.words.Greetings.{Greetings}
use Rattle.sv_launch.specs.declared.words.Greetings.TheVariants.{Off, On}
use Rattle.sv_launch.specs.declared.words.Options.{Options}
use Rattle.sv_launch.specs.declared.words.Arguments.{Arguments}

-- how a node runs: whether its clients' connections are kept, what becomes of a journal that isn't there, and of a node whose journal
-- another process has, whether it greets the others, where its refusals name their cause, where its log goes, and where its figures
pub data Manner : Type 0 where
  Runs : (persistence : Persistence) (if_missing : IfMissing) (if_locked : IfLocked) (greetings : Greetings) (naming : Naming) (log metrics : Option (List ℕ)) → Manner

-- what the program is asked to do
pub data Command : Type 0 where
  ServeOnce : (config : List ℕ) (now : ℕ) → Command
  RunNode : (manner : Manner) (config journal : List ℕ) (number : ℕ) → Command
  ShowHelp : Command
  ShowVersion : Command

abbrev pub once_at : List ℕ → Option ℕ → Option Command
once_at config None = None
once_at config (Some now) = Some (ServeOnce config now)

abbrev pub node_at : Manner → List ℕ → List ℕ → Option ℕ → Option Command
node_at manner config journal None = None
node_at manner config journal (Some number) = Some (RunNode manner config journal number)

-- where no option says otherwise
abbrev pub plain : Manner
plain = Runs Single Make End Off InBody None None

-- one word: its help or its version, by its long name or its short one
abbrev pub of_one : List ℕ → Option Command
of_one word =
    if bytes_eq word (codes "--help") || bytes_eq word (codes "-h") then Some ShowHelp else
    if bytes_eq word (codes "--version") || bytes_eq word (codes "-V") then Some ShowVersion else None

-- three words: `--once`, a CONFIG and a NOW within 64 bits, or a CONFIG, a JOURNAL and a NUMBER within 8 bits
abbrev pub of_three : List ℕ → List ℕ → List ℕ → Option Command
of_three first second third =
    if bytes_eq first (codes "--once") then once_at second (number_in 64 third) else node_at plain first second (number_in 8 third)

-- with the option at the front of the words that names a file, and the words after it: `--log FILE` or `--metrics FILE`
abbrev pub with_file : Manner → List ℕ → List ℕ → List (List ℕ) → Manner × List (List ℕ)
with_file (Runs persistence if_missing if_locked greetings naming log metrics) first second rest =
    if bytes_eq first (codes "--log") then (Runs persistence if_missing if_locked greetings naming (Some second) metrics, rest) else
    if bytes_eq first (codes "--metrics") then (Runs persistence if_missing if_locked greetings naming log (Some second), rest)
    else (Runs persistence if_missing if_locked greetings naming log metrics, first ∷ second ∷ rest)

abbrev pub file_of : Manner → List (List ℕ) → Manner × List (List ℕ)
file_of manner [] = (manner, [])
file_of manner (first ∷ []) = (manner, first ∷ [])
file_of manner (first ∷ second ∷ rest) = with_file manner first second rest

-- this word stands at the front of the words, with another after it
abbrev pub is_first : List ℕ → List (List ℕ) → Bool
is_first word [] = false
is_first word (first ∷ []) = false
is_first word (first ∷ second ∷ rest) = bytes_eq first word

abbrev pub greets : Manner → Manner
greets (Runs persistence if_missing if_locked greetings naming log metrics) = Runs persistence if_missing if_locked On naming log metrics

abbrev pub waits : Manner → Manner
waits (Runs persistence if_missing if_locked greetings naming log metrics) = Runs persistence if_missing Wait greetings naming log metrics

abbrev pub keeps : Manner → Manner
keeps (Runs persistence if_missing if_locked greetings naming log metrics) = Runs Kept if_missing if_locked greetings naming log metrics

abbrev pub refuses : Manner → Manner
refuses (Runs persistence if_missing if_locked greetings naming log metrics) = Runs persistence Refuse if_locked greetings naming log metrics

abbrev pub names : Manner → Manner
names (Runs persistence if_missing if_locked greetings naming log metrics) = Runs persistence if_missing if_locked greetings InField log metrics

-- `--name-causes`
abbrev pub naming_flag_of : Manner → List (List ℕ) → Option Manner
naming_flag_of manner words = if is_first (codes "--name-causes") words then Some (names manner) else None

-- `--greet`, `--wait`, `--keep-alive`, `--existing` or `--name-causes`
abbrev pub flag_of : Manner → List (List ℕ) → Option Manner
flag_of manner words =
    if is_first (codes "--greet") words then Some (greets manner) else
    if is_first (codes "--wait") words then Some (waits manner) else
    if is_first (codes "--keep-alive") words then Some (keeps manner) else
    if is_first (codes "--existing") words then Some (refuses manner) else naming_flag_of manner words

abbrev pub by_flag : Option Manner → Manner → List (List ℕ) → Manner × List (List ℕ)
by_flag None manner words = file_of manner words
by_flag (Some flagged) manner words = (flagged, drop 1 words)

-- one of them, or one that names a file
abbrev pub option_of : Manner → List (List ℕ) → Manner × List (List ℕ)
option_of manner words = by_flag (flag_of manner words) manner words

-- a CONFIG, a JOURNAL and a NUMBER within 8 bits, and nothing else
abbrev pub last_of : Manner → List (List ℕ) → Option Command
last_of manner [] = None
last_of manner (first ∷ []) = None
last_of manner (first ∷ second ∷ []) = None
last_of manner (config ∷ journal ∷ number ∷ []) = node_at manner config journal (number_in 8 number)
last_of manner (first ∷ second ∷ third ∷ fourth ∷ more) = None

-- up to seven options, and the words of a node
abbrev pub of_more : List (List ℕ) → Option Command
of_more words =
    let one = option_of plain words in
    let two = option_of one.0 one.1 in
    let three = option_of two.0 two.1 in
    let four = option_of three.0 three.1 in
    let five = option_of four.0 four.1 in
    let six = option_of five.0 five.1 in
    let seven = option_of six.0 six.1 in
    last_of seven.0 seven.1

abbrev pub command_in : List (List ℕ) → Option Command
command_in [] = None
command_in (word ∷ []) = of_one word
command_in (first ∷ second ∷ []) = None
command_in (first ∷ second ∷ third ∷ []) = of_three first second third
command_in (first ∷ second ∷ third ∷ fourth ∷ more) = of_more (first ∷ second ∷ third ∷ fourth ∷ more)

abbrev pub options_of : Options → Manner
options_of options = Runs options.persistence options.if_missing options.if_locked options.greetings options.naming (option_map (λ text. text.now) options.log) (option_map (λ text. text.now) options.metrics)

-- what was read
abbrev pub command_of : Result Words Arguments → Option Command
command_of (Ok (Once config now)) = Some (ServeOnce config.now now)
command_of (Ok (Node node)) = Some (RunNode (options_of node.options) node.config.now node.journal.now node.number)
command_of (Ok Help) = Some ShowHelp
command_of (Ok Version) = Some ShowVersion
command_of (Err fault) = None
