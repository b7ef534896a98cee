-- Each output is handed on.
use Rattle.sv_host.proofs.Prelude.{◌≡◌, ◌<◌, ℕ, ◌+◌, Bool, false, List, [], ◌∷◌, Vec, length, drop, get_or, None, Result, Ok, refl, ap, sym, ◌∙◌, subst}
use Rattle.sv_host.proofs.Prelude.{true≢false, arith, Global, Concludes, ConcludesRefused, HandsOn, HandsOnAll, HandsOut, HandsOutFrom}
use Rattle.sv_host.proofs.Prelude.{RefusesAll, way_at, last_taken, lets, Taken, Sending, All, Share, Nothing, Asker, Client, Command, Way, Server, packet_in}
use Rattle.sv_host.proofs.Prelude.{Output, Answer, Refuse, Send, Moved, MoveRefused, Cause, StepFault, clients_of, GoOnBut, ObeysThere, held_at, naming_of}
use Rattle.sv_host.proofs.Prelude.{Answers, refused_as}
use Rattle.std.specs.Prelude.{is_none}
use Rattle.std.proofs.lemmas.List.{drop_more}
use Rattle.sv_host.specs.HandingOut.{TellsNobody, TellsOne}
use Rattle.sv_model.specs.Cause.{cause_of}
use Rattle.sv_host.specs.Packets.{Passes}
use Rattle.sv_net.proofs.SendingLemmas.{sends_nothing}
use Rattle.sv_net.proofs.SpareLemmas.{spares_same}
use Rattle.sv_net.specs.Places.{SparesClients}

-- a packet alone isn't sent
is_packet : (sending : Sending) (output : Output) → Passes sending output false → packet_in output ≡ None → ⊥
is_packet All output passes none = true≢false (sym passes)
is_packet (Share share) output passes none = true≢false (sym (passes ∙ ap (λ p. lets share p) none))
is_packet Nothing output passes none = true≢false (sym (passes ∙ ap (λ p. is_none p) none))

packet_to_nobody : (output : Output) (now : ℕ) (server : Server) → (packet_in output ≡ None → ⊥) → HandsOn output now server server
packet_to_nobody (Answer number response) now server packet = absurd (packet refl)
packet_to_nobody (Refuse number cause) now server packet = absurd (packet refl)
packet_to_nobody (Send p) now server packet = (refl, spares_same server.connections server.connections (λ place. refl), sends_nothing server.connections)
packet_to_nobody Moved now server packet = absurd (packet refl)
packet_to_nobody (MoveRefused why) now server packet = absurd (packet refl)

pub not_sent : (sending : Sending) (output : Output) (taken : Bool) (now : ℕ) (server : Server) → Passes sending output taken → taken ≡ false → HandsOn output now server server
not_sent sending output taken now server passes is =
    packet_to_nobody output now server (is_packet sending output (subst (λ t. Passes sending output t) is passes))

-- one, and then the others
pub one_handed : (items rest : List Output) (output : Output) (now : ℕ) (before mid final : Server) → items ≡ output ∷ rest → HandsOn output now before mid → HandsOnAll rest now mid final
    → HandsOnAll items now before final
one_handed items rest output now before mid final is handed all = subst (λ xs. HandsOnAll xs now before final) (sym is) (mid, handed, all)

-- ---- a group

-- the client that has asked
pub client_refused : (asker : Asker) (place number : ℕ) (fault : StepFault) (cause : Cause) (now : ℕ) (old new : Server) → asker ≡ Client place number → cause ≡ cause_of fault
    → TellsOne number (λ manner was held. Answers (refused_as (naming_of old.connections) cause manner) now was held) old new → ConcludesRefused asker fault now old new
client_refused asker place number fault cause now old new is by told =
    subst (λ a. ConcludesRefused a fault now old new) (sym is) (subst (λ (c : Cause). TellsOne number (λ manner was held. Answers (refused_as (naming_of old.connections) c manner) now was held) old new) by told)

-- whoever gave a command
pub commanded : (asker : Asker) (place byte : ℕ) (old new : Server) → asker ≡ Command place → clients_of new.parked ≡ clients_of old.parked → SparesClients old.connections new.connections
    → GoOnBut place (ObeysThere byte (held_at old.connections place)) old.connections new.connections → Concludes asker old new
commanded asker place byte old new is same spares told = subst (λ a. Concludes a old new) (sym is) (same, spares, (byte, told))

pub command_refused : (asker : Asker) (place byte : ℕ) (fault : StepFault) (now : ℕ) (old new : Server) → asker ≡ Command place → clients_of new.parked ≡ clients_of old.parked → SparesClients old.connections new.connections
    → GoOnBut place (ObeysThere byte (held_at old.connections place)) old.connections new.connections → ConcludesRefused asker fault now old new
command_refused asker place byte fault now old new is same spares told = subst (λ a. ConcludesRefused a fault now old new) (sym is) (same, spares, (byte, told))

-- one way, and then the others
pub one_refused : (ways : List Way) (at : ℕ) (other way : Way) (fault : StepFault) (now : ℕ) (before mid final : Server) → at < length ways → way ≡ get_or ways at other
    → ConcludesRefused way.asker fault now before mid → RefusesAll (drop (at + 1) ways) fault now mid final → RefusesAll (drop at ways) fault now before final
one_refused ways at other way fault now before mid final within is refused all =
    subst (λ xs. RefusesAll xs fault now before final) (sym (drop_more ways at other within))
    (mid, subst (λ (w : Way). ConcludesRefused w.asker fault now before mid) is refused, all)

-- what came of one input
pub one_out : (asker : Asker) (answer : Result (Vec Output Global) StepFault) (outputs : Vec Output Global) (now : ℕ) (old new : Server) → answer ≡ Ok outputs
    → HandsOut asker (Ok outputs) now old new → HandsOut asker answer now old new
one_out asker answer outputs now old new is out = subst (λ (a : Result (Vec Output Global) StepFault). HandsOut asker a now old new) (sym is) out

-- one input, and then the others
pub one_more_out : (at next : ℕ) (ways : List Way) (way : Way) (items rest : List (Result (Vec Output Global) StepFault)) (answer : Result (Vec Output Global) StepFault) (now : ℕ) (before mid final : Server)
    → items ≡ answer ∷ rest → way ≡ way_at ways at → next ≡ at + 1 → HandsOut way.asker answer now before mid → HandsOutFrom next ways rest now mid final
    → HandsOutFrom at ways items now before final
one_more_out at next ways way items rest answer now before mid final is by up out all =
    subst (λ xs. HandsOutFrom at ways xs now before final) (sym is)
    (mid, subst (λ (w : Way). HandsOut w.asker answer now before mid) by out, subst (λ n. HandsOutFrom n ways rest now mid final) up all)

pub none_out : (at : ℕ) (ways : List Way) (items : List (Result (Vec Output Global) StepFault)) (now : ℕ) (before final : Server) → length items ≡ 0 → TellsNobody before final
    → HandsOutFrom at ways items now before final
none_out at ways [] now before final none told = told
none_out at ways (answer ∷ items) now before final none told = absurd (omega (arith, none))

pub all_out : (ways : List Way) (items answers : List (Result (Vec Output Global) StepFault)) (now seconds : ℕ) (old final : Server) → items ≡ answers → now ≡ seconds
    → HandsOutFrom 0 ways items now old final → HandsOutFrom 0 ways answers seconds old final
all_out ways items answers now seconds old final same at out =
    subst (λ xs. HandsOutFrom 0 ways xs seconds old final) same (subst (λ n. HandsOutFrom 0 ways items n old final) at out)

-- none is left
pub none_taken : (taken : Taken) (answers : List (Result (Vec Output Global) StepFault)) → length answers ≡ 0 → last_taken taken answers ≡ taken
none_taken taken [] none = refl
none_taken taken (a ∷ answers) none = absurd (omega (arith, none))
