-- Who goes on waiting when what a group has put out is handed to whom it is for: whoever is told nothing of it.
use Rattle.sv_host.proofs.Prelude.{◌≡◌, ◌≢◌, ℕ, zero, suc, ◌+◌, ◌<◌, ◌≤◌, List, [], ◌∷◌, map, Vec, vec_items, Result, Ok, Err, arith, sym, ap, subst, ◌∙◌, ⊤}
use Rattle.sv_host.proofs.Prelude.{Global, Asker, Client, Command, Nobody, Way, ParkedClient, Server, AskedFor, Has, HasAsked, HaveWays, KeepsOthers, MayAsk}
use Rattle.sv_host.proofs.Prelude.{WaitFor, refused_of, Concludes, ConcludesRefused, HandsOn, HandsOnAll, HandsOut, HandsOutFrom, RefusesAll, way_at}
use Rattle.sv_host.proofs.Prelude.{clients_of, without, Input, Moment, Parked, Setting, Output, Answer, Refuse, Send, Moved, MoveRefused, StepFault}
use Rattle.sv_host.proofs.Prelude.{EngineMeaning, decided, with_list, Answered, IsAnswer, behind, left_by, all_given, IsAbove, RiseIn, number_in, numbers_in}
use Rattle.sv_host.proofs.GroupLemmas.{not_lower}
use Rattle.sv_host.specs.Clients.{IsForOthers}
use Rattle.sv_host.proofs.AskedLemmas.{asked_between, refused_keeps}
use Rattle.sv_host.proofs.ClientLemmas.{others_kept}
use Rattle.sv_host.proofs.WaitLemmas.{step_keeps, step_waits, wait_below, wait_map}
use Rattle.sv_model.specs.declared.input.Input.TheVariants as input
use Rattle.sv_model.specs.NodeState.{Node as State}
use Rattle.sv_node.specs.Group.{bytes_of, entries_by}

-- ---- outputs

abbrev same_clients : Server → Server → Type 0
same_clients old new = clients_of new.parked ≡ clients_of old.parked

still : (token : ℕ) (old new : Server) → same_clients old new → Has token (clients_of old.parked) → Has token (clients_of new.parked)
still token old new same has = subst (λ (cs : List ParkedClient). Has token cs) (sym same) has

left_one : (token number : ℕ) (old new : Server) → clients_of new.parked ≡ without number (clients_of old.parked) → number ≢ token → Has token (clients_of old.parked) → Has token (clients_of new.parked)
left_one token number old new is other has = subst (λ (cs : List ParkedClient). Has token cs) (sym is) (others_kept token number (clients_of old.parked) other has)

one_keeps : (token : ℕ) (o : Output) (now : ℕ) (old new : Server) → HandsOn o now old new → IsForOthers token o → Has token (clients_of old.parked) → Has token (clients_of new.parked)
one_keeps token (Answer number response) now old new handed other has = left_one token number old new handed.0 other has
one_keeps token (Refuse number cause) now old new handed other has = left_one token number old new handed.0 other has
one_keeps token (Send packet) now old new handed other has = still token old new handed.0 has
one_keeps token Moved now old new handed other has = still token old new handed.0 has
one_keeps token (MoveRefused why) now old new handed other has = still token old new handed.0 has

-- whoever is told nothing of them
pub all_keep : (outputs : List Output) (now : ℕ) (old new : Server) → HandsOnAll outputs now old new → KeepsOthers outputs (clients_of old.parked) (clients_of new.parked)
all_keep [] now old new handed token other has = still token old new handed.0 has
all_keep (o ∷ outputs) now old new (mid, one, rest) token other has = all_keep outputs now mid new rest token other.1 (one_keeps token o now old mid one other.0 has)

concluded : (asker : Asker) (old new : Server) → Concludes asker old new → same_clients old new
concluded (Client place number) old new is = is.0
concluded (Command place) old new is = is.0
concluded Nobody old new is = is.0

pub concluded_refused : (asker : Asker) (fault : StepFault) (now : ℕ) (old new : Server) → ConcludesRefused asker fault now old new → clients_of new.parked ≡ refused_of asker (clients_of old.parked)
concluded_refused (Client place number) fault now old new is = is.0
concluded_refused (Command place) fault now old new is = is.0
concluded_refused Nobody fault now old new is = is.0

-- ---- one input

-- a step that was done
pub step_told : (asker : Asker) (outputs : Vec Output Global) (now : ℕ) (old new : Server) → HandsOut asker (Ok outputs) now old new → KeepsOthers outputs.items (clients_of old.parked) (clients_of new.parked)
step_told asker outputs now old new (start, mid, first, handed, last) token other has =
    still token mid new (concluded asker mid new last) (all_keep outputs.items now start mid handed token other (still token old start first.0 has))

-- one that was refused: whoever asked before is kept, and whoever asks later
refused_later : (asker : Asker) (i : Input) (low token : ℕ) (cs : List ParkedClient) → MayAsk asker i → number_in low i < token → Has token cs → Has token (refused_of asker cs)
refused_later (Client place own) (input.Ask other r) low token cs may later has = others_kept token own cs (λ same. omega (arith, same, may, later)) has
refused_later (Client place own) (input.Packet p) low token cs may later has = absurd may
refused_later (Client place own) input.Poke low token cs may later has = absurd may
refused_later (Client place own) input.Tick low token cs may later has = absurd may
refused_later (Client place own) (input.Move k to) low token cs may later has = absurd may
refused_later (Command place) i low token cs may later has = has
refused_later Nobody i low token cs may later has = has

pub refusal_keeps : (asker : Asker) (i : Input) (fault : StepFault) (now low : ℕ) (old new : Server) → ConcludesRefused asker fault now old new → MayAsk asker i → IsAbove low i
    → (token : ℕ) → token ≤ low → Has token (clients_of old.parked) → Has token (clients_of new.parked)
refusal_keeps asker i fault now low old new is may above token le has =
    subst (λ (cs : List ParkedClient). Has token cs) (sym (concluded_refused asker fault now old new is)) (refused_keeps asker i low token (clients_of old.parked) may above le has)

refusal_keeps_later : (asker : Asker) (i : Input) (fault : StepFault) (now low : ℕ) (old new : Server) → ConcludesRefused asker fault now old new → MayAsk asker i
    → (token : ℕ) → number_in low i < token → Has token (clients_of old.parked) → Has token (clients_of new.parked)
refusal_keeps_later asker i fault now low old new is may token later has =
    subst (λ (cs : List ParkedClient). Has token cs) (sym (concluded_refused asker fault now old new is)) (refused_later asker i low token (clients_of old.parked) may later has)

abbrev Handed : Type 0
Handed = Result (Vec Output Global) StepFault

abbrev pub answer_in : Handed → Result (List Output) StepFault
answer_in a = with_list vec_items a

-- what holds of those that wait, and of those who come later, after one input
record IsTold (n : State) (low : ℕ) (i : Input) (old new : Server) (next : State) : Type 0 where
  waits : WaitFor 0 (number_in low i) (clients_of new.parked) next.parked
  keeps : (token : ℕ) → number_in low i < token → Has token (clients_of old.parked) → Has token (clients_of new.parked)

one_told : (m : EngineMeaning) (set : Setting) (len end : ℕ) (n : State) (moment : Moment) (i : Input) (asker : Asker) (answer : Handed) (now low : ℕ) (old new : Server)
    → WaitFor 0 low (clients_of old.parked) n.parked → IsAbove low i → HasAsked (clients_of old.parked) i → MayAsk asker i → IsAnswer len end (decided m set n moment i) (answer_in answer) → HandsOut asker answer now old new
    → IsTold n low i old new (left_by n (decided m set n moment i) (answer_in answer))
one_told m set len end n moment i asker (Ok outputs) now low old new w above asked may answered out =
    let keeps = subst (λ (os : List Output). KeepsOthers os (clients_of old.parked) (clients_of new.parked)) answered (step_told asker outputs now old new out) in
    record {
      waits = step_waits m set n moment i low (clients_of old.parked) (clients_of new.parked) above asked w keeps;
      keeps = step_keeps m set n moment i low (clients_of old.parked) (clients_of new.parked) above asked w keeps;
    }
one_told m set len end n moment i asker (Err fault) now low old new w above asked may answered out = record {
  waits = wait_below (λ token. Has token (clients_of new.parked)) 0 low (number_in low i) n.parked (not_lower low i above)
      (wait_map (λ token. Has token (clients_of old.parked)) (λ token. Has token (clients_of new.parked)) 0 low n.parked (λ token _ le has. refusal_keeps asker i fault now low old new out may above token le has) w);
  keeps = refusal_keeps_later asker i fault now low old new out may;
}

-- ---- a group

-- the inputs from a place on, by to whom what comes of each goes
abbrev pub HaveAskers : (ℕ → Asker) → ℕ → List (Moment × Input) → Type 0
HaveAskers to at [] = ⊤
HaveAskers to at (i ∷ is) = MayAsk (to at) i.1 × HaveAskers to (at + 1) is

pub askers_of : (to : ℕ → Asker) (at : ℕ) (is : List (Moment × Input)) (ways : List Way) → HaveWays is ways → ((k : ℕ) → to (at + k) ≡ (way_at ways k).asker) → HaveAskers to at is
askers_of to at [] ways have by = tt
askers_of to at (i ∷ is) [] have by = absurd have
askers_of to at (i ∷ is) (w ∷ ways) have by = (
  subst (λ (a : Asker). MayAsk a i.1) (sym (let here : at ≡ at + zero = omega arith in ap to here ∙ by zero)) have.0,
  askers_of to (at + 1) is ways have.1 (λ k. let next : (at + 1) + k ≡ at + suc k = omega arith in ap to next ∙ by (suc k)),
)

pub group_waits : (m : EngineMeaning) (set : Setting) (len end at : ℕ) (n : State) (is : List (Moment × Input)) (ways : List Way) (answers : List Handed) (now low : ℕ) (old new : Server)
    → WaitFor 0 low (clients_of old.parked) n.parked → RiseIn low (all_given is) → AskedFor (clients_of old.parked) is → HaveAskers (λ k. (way_at ways k).asker) at is
    → Answered m set len end n is (map (with_list vec_items) answers) → HandsOutFrom at ways answers now old new
    → WaitFor 0 (numbers_in low (all_given is)) (clients_of new.parked) (behind m set n is (map (with_list vec_items) answers)).parked
group_waits m set len end at n [] ways [] now low old new w rise asked may answered out =
    subst (λ (cs : List ParkedClient). WaitFor 0 low cs n.parked) (sym out.0) w
group_waits m set len end at n [] ways (a ∷ answers) now low old new w rise asked may answered out = absurd answered
group_waits m set len end at n (i ∷ is) ways [] now low old new w rise asked may answered out = absurd answered
group_waits m set len end at n (i ∷ is) ways (a ∷ answers) now low old new w rise asked may answered (mid, one, rest) =
    let told = one_told m set len end n i.0 i.1 (way_at ways at).asker a now low old mid w rise.0 asked.0 may.0 answered.0 one in
    group_waits m set len (end + bytes_of (entries_by (decided m set n i.0 i.1) (answer_in a))) (at + 1) (left_by n (decided m set n i.0 i.1) (answer_in a)) is ways answers now (number_in low i.1) mid new told.waits rise.1
    (asked_between (number_in low i.1) (numbers_in (number_in low i.1) (all_given is)) (clients_of old.parked) (clients_of mid.parked) is rise.1 (omega arith) (λ token later _ has. told.keeps token later has) asked.1)
    may.1 answered.1 rest

-- one of which no step was taken
pub refused_group_waits : (is : List (Moment × Input)) (ways : List Way) (fault : StepFault) (now low : ℕ) (old new : Server) (ps : List Parked)
    → WaitFor 0 low (clients_of old.parked) ps → RiseIn low (all_given is) → HaveWays is ways → RefusesAll ways fault now old new → WaitFor 0 (numbers_in low (all_given is)) (clients_of new.parked) ps
refused_group_waits [] [] fault now low old new ps w rise have refused = subst (λ (cs : List ParkedClient). WaitFor 0 low cs ps) (sym refused.0) w
refused_group_waits [] (way ∷ ways) fault now low old new ps w rise have refused = absurd have
refused_group_waits (i ∷ is) [] fault now low old new ps w rise have refused = absurd have
refused_group_waits (i ∷ is) (way ∷ ways) fault now low old new ps w rise have (mid, one, rest) =
    refused_group_waits is ways fault now (number_in low i.1) mid new ps
    (wait_below (λ token. Has token (clients_of mid.parked)) 0 low (number_in low i.1) ps (not_lower low i.1 rise.0)
    (wait_map (λ token. Has token (clients_of old.parked)) (λ token. Has token (clients_of mid.parked)) 0 low ps (λ token _ le has. refusal_keeps way.asker i.1 fault now low old mid one have.0 rise.0 token le has) w))
    rise.1 have.1 rest
