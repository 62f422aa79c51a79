-- No link refusal comes up in a replay: whatever records came before, the drive performs the next one.
use Rattle.std.proofs.Common.{◌≡◌, ℕ, true, List, [], ◌∷◌, length, refl}
use Rattle.protocol.specs.Command.{decode}
use Rattle.disc.specs.Sound.{allowed_state}
use Rattle.disc.specs.Blank.{in_range}
use Rattle.protocol.specs.Lengths.{data_length, reply_room}
use Rattle.commands.specs.Judge.{perform, judge_as_asked}
use Rattle.disc.proofs.Laws.Blank.{blank-allowed, blank_capacity}
use Rattle.commands.proofs.Laws.Judge.{allowed_ready}
use Rattle.outcomes.proofs.Laws.Judge.{judge-decided, decided-ready, decided-allowed, as_asked_performs}
use Rattle.playback.specs.Types.{Disc, Replay}
use Rattle.playback.specs.Replay.{start, after, onward, replayed}

-- a state that gets past L2 and L3
record Served (d : Disc) : Type 0 where
  range : in_range d.capacity ≡ true
  allowed : allowed_state d ≡ true

start-served : Served start.disc
start-served = record { range = rw (blank_capacity 300); allowed = blank-allowed 300 refl }

after-served : (d : Disc) (b : List ℕ) → Served d → Served (after d b)
after-served d b s =
    let v = judge-decided d b (data_length (decode b)) (reply_room (decode b)) in
    record {
      range = (decided-ready d (judge_as_asked d b) (allowed_ready d s.range s.allowed) v).range;
      allowed = decided-allowed d (judge_as_asked d b) s.allowed v;
    }

replayed-served : (r : Replay) (bs : List (List ℕ)) → Served r.disc → Served (replayed r bs).disc
unfolding replayed
replayed-served r [] s = s
replayed-served r (b ∷ bs) s = replayed-served (onward r b) bs (after-served r.disc b s)

pub replay_performs :
    (bs : List (List ℕ)) (b : List ℕ) → length b ≡ 12
    → judge_as_asked (replayed start bs).disc b ≡ perform (replayed start bs).disc (decode b)
replay_performs bs b l =
    let s = replayed-served start bs start-served in
    as_asked_performs (replayed start bs).disc b l s.range s.allowed
