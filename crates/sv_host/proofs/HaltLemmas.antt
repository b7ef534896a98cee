-- Who has told a node to stop.
use Rattle.sv_host.proofs.Prelude.{◌≡◌, ◌<◌, ◌≤◌, ◌++◌, ℕ, zero, suc, Bool, true≢false, List, [], ◌∷◌, Vec, length, take, sym, ◌∙◌, subst, arith, Global, Stop}
use Rattle.sv_host.proofs.Prelude.{came_of, turn_of, Finds, HearsAt, Heard, Open, Socket, State}
use Rattle.sv_host.specs.Serve.{Halts}
use Rattle.sv_host.specs.Stops.{IsTold, IsToldBy}
use Rattle.sv_net.specs.declared.hearing.Heard.TheVariants as heard
use Rattle.sv_net.specs.declared.state.State.TheVariants as state
use Rattle.sv_net.specs.declared.state.Turn.TheVariants as turn
use Rattle.sv_record.specs.declared.frame.Frame.TheVariants.{Halt}

no_frame : (s : State) (rest : Vec ℕ Global) → heard.Frame Halt rest ≡ heard.More s → ⊥
no_frame s rest is = cc

by_state : (greets : Bool) (was : Open) (begun : State) (piece : List ℕ) (rest : Vec ℕ Global) (stop : Stop) → Finds greets was.state piece begun → HearsAt begun piece (heard.Frame Halt rest) → IsToldBy was.socket stop
    → Halts greets was piece stop
by_state greets was state.New piece rest stop f h by = absurd (no_frame _ rest h)
by_state greets was (state.Asking c) piece rest stop f h by = absurd h
by_state greets was (state.Asked c) piece rest stop f h by = absurd h
by_state greets was (state.Resting c) piece rest stop f h by = absurd h
by_state greets was (state.Framing bytes) piece rest stop f h by = record { bytes = bytes; found = f; halt = h.0; by_it = by }
by_state greets was (state.Greeting bytes) piece rest stop f h by = absurd h
by_state greets was (state.Taken peer) piece rest stop f h by = absurd (true≢false (sym h.1))
by_state greets was (state.Peer peer) piece rest stop f h by = absurd (true≢false (sym h.1))
by_state greets was (state.Waiting client head_only close token silent) piece rest stop f h by = absurd (no_frame _ rest h)
by_state greets was state.Ordering piece rest stop f h by = absurd (no_frame _ rest h)
by_state greets was (state.Holding byte) piece rest stop f h by = absurd (no_frame _ rest h)
by_state greets was (state.Saying text next) piece rest stop f h by = absurd (no_frame _ rest h)
by_state greets was (state.Parting bytes) piece rest stop f h by = absurd (no_frame _ rest h)
by_state greets was (state.Calling to frame holder) piece rest stop f h by = absurd (no_frame _ rest h)

-- the command was heard on a connection
pub halts : (greets : Bool) (was : Open) (begun : State) (piece : List ℕ) (came : Heard) (rest : Vec ℕ Global) (socket : Socket) (stop : Stop) → Finds greets was.state piece begun → HearsAt begun piece came
    → came ≡ heard.Frame Halt rest → socket ≡ was.socket → IsToldBy socket stop → Halts greets was piece stop
halts greets was begun piece came rest socket stop f h is on by =
    by_state greets was begun piece rest stop f (subst (λ x. HearsAt begun piece x) is h) (subst (λ s. IsToldBy s stop) on by)

some_of : (count : ℕ) (xs : List ℕ) → 0 < count → count ≤ length xs → 0 < length (take count xs)
some_of zero xs some most = absurd (omega (arith, some))
some_of (suc count) [] some most = absurd (omega (arith, most))
some_of (suc count) (x ∷ xs) some most = omega arith

-- it came with what was read last
pub told : (greets : Bool) (was read : Open) (count : ℕ) (bytes : List ℕ) (stop : Stop) → 0 < count → count ≤ length bytes → came_of read.socket ≡ came_of was.socket ++ take count bytes
    → Halts greets read (take count bytes) stop → IsTold stop
told greets was read count bytes stop some most came h =
    record {
      socket = h.by_it.0;
      halted = record {
        before = came_of was.socket;
        held = h.bytes.items;
        piece = take count bytes;
        some = some_of count bytes some most;
        came = h.by_it.2 ∙ came;
        halt = h.halt;
      };
      stop_is = h.by_it.1;
    }

-- it doesn't come after a request or a packet
not_behind : (greets : Bool) (s : State) (bytes : Vec ℕ Global) → turn_of s ≡ turn.Serve → Finds greets s [] (state.Framing bytes) → ⊥
not_behind greets state.New bytes serves f = absurd (let h = serves in cc)
not_behind greets (state.Asking c) bytes serves f = absurd (let h = serves in cc)
not_behind greets (state.Asked c) bytes serves f = absurd (let h = f in cc)
not_behind greets (state.Resting c) bytes serves f = absurd (let h = serves in cc)
not_behind greets (state.Framing held) bytes serves f = absurd (let h = serves in cc)
not_behind greets (state.Greeting held) bytes serves f = absurd (let h = serves in cc)
not_behind greets (state.Taken peer) bytes serves f = absurd (let h = f in cc)
not_behind greets (state.Peer peer) bytes serves f = absurd (let h = serves in cc)
not_behind greets (state.Waiting client head_only close token silent) bytes serves f = absurd (let h = serves in cc)
not_behind greets state.Ordering bytes serves f = absurd (let h = serves in cc)
not_behind greets (state.Holding byte) bytes serves f = absurd (let h = serves in cc)
not_behind greets (state.Saying text next) bytes serves f = absurd (let h = serves in cc)
not_behind greets (state.Parting left) bytes serves f = absurd (let h = serves in cc)
not_behind greets (state.Calling to frame holder) bytes serves f = absurd (let h = serves in cc)

pub not_served : (greets : Bool) (was : Open) (stop : Stop) → turn_of was.state ≡ turn.Serve → Halts greets was [] stop → IsTold stop
not_served greets was stop serves h = absurd (not_behind greets was.state h.bytes serves h.found)
