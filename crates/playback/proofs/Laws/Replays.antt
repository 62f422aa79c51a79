-- Replays: records one after another, and an input in parts.
use Rattle.std.proofs.Common.{◌≡◌, ℕ, List, [], ◌∷◌, ◌++◌, drop, sym, refl, ap, ◌∙◌, append_assoc}
use Rattle.trace.specs.Whole.{whole_cdbs, whole_end}
use Rattle.trace.proofs.Laws.Parts.{in_parts}
use Rattle.playback.specs.Types.{Replay}
use Rattle.playback.specs.Replay.{line_text, onward, replayed}
use Rattle.playback.specs.Transcript.{lines}

-- records one after another
pub replayed-append : (r : Replay) (bs cs : List (List ℕ)) → replayed r (bs ++ cs) ≡ replayed (replayed r bs) cs
unfolding replayed
replayed-append r [] cs = refl
replayed-append r (b ∷ bs) cs = replayed-append (onward r b) bs cs

-- an input in two parts: what is left of the first, with the second after it, is replayed from where the first leads
pub replayed_parts :
    (r : Replay) (a b : List ℕ)
    → replayed r (whole_cdbs (a ++ b)) ≡ replayed (replayed r (whole_cdbs a)) (whole_cdbs (drop (whole_end a) a ++ b))
replayed_parts r a b =
    ap (replayed r) (in_parts a b).cdbs ∙ replayed-append r (whole_cdbs a) (whole_cdbs (drop (whole_end a) a ++ b))

-- and their lines
pub lines-append : (r : Replay) (bs cs : List (List ℕ)) → lines r (bs ++ cs) ≡ lines r bs ++ lines (replayed r bs) cs
unfolding lines replayed
lines-append r [] cs = refl
lines-append r (b ∷ bs) cs =
    ap (λ (x : List ℕ). line_text r b ++ x) (lines-append (onward r b) bs cs)
    ∙ sym (append_assoc (line_text r b) (lines (onward r b) bs) (lines (replayed (onward r b) bs) cs))

pub lines_parts :
    (r : Replay) (a b : List ℕ)
    → lines r (whole_cdbs (a ++ b))
    ≡ lines r (whole_cdbs a) ++ lines (replayed r (whole_cdbs a)) (whole_cdbs (drop (whole_end a) a ++ b))
lines_parts r a b =
    ap (lines r) (in_parts a b).cdbs ∙ lines-append r (whole_cdbs a) (whole_cdbs (drop (whole_end a) a ++ b))
