-- An input in parts: what is left at a stop, and what was read after the bytes held.
use Rattle.std.proofs.Common.{◌≡◌, ℕ, ◌+◌, ◌-◌, ◌<◌, ◌≤◌, Ok, Err, List, ◌++◌, length, length-append, length-take-le, length-drop, take, drop, take-append-drop, sym, ap, ◌∙◌, arith}
use borrow.Rule.Slice.PartMut.{put_mid}
use lib.Seq.{take_at, drop_at, drop-drop, take-append-le, take-take}
use Rattle.std.proofs.lemmas.List.{drop-take}
use Rattle.std.specs.List.{copy_within}
use Rattle.trace.specs.Record.{reading_of, step_at}
use Rattle.trace.proofs.Laws.Record.{few_left, step_stop}
use Rattle.trace.proofs.Laws.Whole.{record_found}
use Rattle.playback.specs.Types.{Record, Stop, BadMark}

-- less than a record is left where there is none, unless a mark is wrong
pub stop_few : (t : List ℕ) (at : ℕ) (s : Stop) → step_at t at ≡ Err s → (s.reason ≡ BadMark → ⊥) → length t - at < 14
unfolding step_at
stop_few t at s e k =
    omega (arith, few_left (drop at t) s.reason (step_stop (reading_of (drop at t)) at s e).0 k, length-drop at t)

-- the bytes held of a buffer, from one position up to another
pub held_length : (b : List ℕ) (at end : ℕ) → at ≤ end → end ≤ length b → length (take (end - at) (drop at b)) ≡ end - at
held_length b at end h k = length-take-le (end - at) (drop at b) (omega (arith, length-drop at b))

-- a record that is found lies within them
pub found_within : (t : List ℕ) (f : Record) → step_at t 0 ≡ Ok f → f.next ≤ length t
found_within t f e = let r = record_found t 0 f e in omega (arith, r.next, r.marked.long, length-drop 0 t)

-- those after the first of them
pub held_after : (b : List ℕ) (at end n : ℕ) → at + n ≤ end → take (end - (at + n)) (drop (at + n) b) ≡ drop n (take (end - at) (drop at b))
held_after b at end n h =
    let k = end - (at + n) in
    let e : end - at ≡ n + k = omega arith in
    rw e (ap (take k) (sym (drop-drop n at b)) ∙ sym (drop-take n k (drop at b)))

-- brought to the front they are the same
pub held_front : (b : List ℕ) (at end : ℕ) → at ≤ end → end ≤ length b → take (end - at) (copy_within b at end 0) ≡ take (end - at) (drop at b)
held_front b at end h k =
    let n = end - at in
    let z : 0 + n ≡ n = omega arith in
    ap (λ (i : ℕ). take n (take n (drop at b) ++ drop i b)) z ∙ take_at (take n (drop at b)) (drop n b) n (held_length b at end h k)

-- bytes read over the end of others leave as many
pub still_long : (xs ys : List ℕ) (a k : ℕ) → a + k ≡ length xs → length ys ≡ k → length (put_mid a k xs ys) ≡ length xs
still_long xs ys a k e f =
    omega (
      arith,
      length-append (take a xs) (ys ++ drop k (drop a xs)),
      length-append ys (drop k (drop a xs)),
      length-take-le a xs (omega arith),
      length-drop k (drop a xs),
      length-drop a xs,
    )

-- what was read stands after the bytes held
pub came_in :
    (front part rest : List ℕ) (at n m : ℕ) → m ≡ at + n → length front ≡ at → n ≤ length part
    → take m (front ++ (part ++ rest)) ≡ front ++ take n part
came_in front part rest at n m sum long fits =
    let all = front ++ (part ++ rest) in
    let first : take at (take (at + n) all) ≡ front = take-take at (at + n) all (omega arith) ∙ take_at front (part ++ rest) at long in
    let last : drop at (take (at + n) all) ≡ take n part =
    drop-take at n all ∙ ap (take n) (drop_at front (part ++ rest) at long) ∙ take-append-le n part rest fits in
    ap (λ (i : ℕ). take i all) sum ∙ sym (take-append-drop at (take (at + n) all)) ∙ ap (λ (l : List ℕ). l ++ drop at (take (at + n) all)) first ∙ ap (λ (l : List ℕ). front ++ l) last
