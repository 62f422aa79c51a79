-- What a replay prints: the heading and a line for each record so far, and the last line.
use Rattle.std.proofs.Common.{◌≡◌, ℕ, ◌⊎◌, inl, inr, ◌≤◌, List, [], ◌∷◌, ◌++◌, Option, None, Some, Result, Ok, Err, IfOk, OnOk, IfSome, length, length-drop, take, drop, refl, sym, ap, ◌∙◌, subst, append_assoc, append-nil, arith}
use lib.Seq.{drop-append-le}
use Rattle.std.specs.Io.KnownBytes.{Keeps, Appends, Consumes, IsAtEnd, prepend_known}
use Rattle.std.proofs.KnownBytes.{Appends-trans, Keeps-refl, prepend_known-nil}
use Rattle.trace.specs.Record.{reading_of, step_at}
use Rattle.trace.specs.Whole.{whole_cdbs, whole_end}
use Rattle.trace.proofs.Laws.Record.{step_stop}
use Rattle.trace.proofs.Laws.Whole.{record_found, whole_stop}
use Rattle.trace.proofs.Laws.Parts.{after_first, bad_early, record_early}
use Rattle.playback.specs.Types.{Record, Stop, Replay, Played, BadMark, Ending}
use Rattle.playback.specs.Line.{text_of}
use Rattle.playback.specs.Replay.{start, played, replayed, last_text, Plays}
use Rattle.playback.specs.Transcript.{heading, lines, transcript}
use Rattle.playback.specs.Output.{end_reading, whole, Reported, BrokenOff}
use Rattle.playback.proofs.Laws.Replays.{replayed-append, lines-append}

-- what is left of a trace after some records of it
abbrev pub LeftOf : Option (List ℕ) → Option (List ℕ) → List (List ℕ) → Type 0
LeftOf None b ps = Unit {0}
LeftOf (Some t) None ps = ⊥
LeftOf (Some t) (Some u) ps = (whole_cdbs t ≡ ps ++ whole_cdbs u) × (end_reading t ≡ end_reading u)

left_first : (x : Option (List ℕ)) → LeftOf x x []
left_first None = tt
left_first (Some t) = (refl, refl)

-- bytes that begin with a record, and those after them
one_record :
    (h xs : List ℕ) (f : Record) → step_at h 0 ≡ Ok f
    → (whole_cdbs (h ++ xs) ≡ f.cdb ∷ whole_cdbs (drop f.next h ++ xs)) × (end_reading (h ++ xs) ≡ end_reading (drop f.next h ++ xs))
one_record h xs f e =
    let a = after_first (h ++ xs) f (record_early h xs 0 f e) in
    let r = record_found h 0 f e in
    let d : drop f.next (h ++ xs) ≡ drop f.next h ++ xs = drop-append-le f.next h xs (omega (arith, r.next, r.marked.long, length-drop 0 h)) in
    (a.cdbs ∙ ap (λ (l : List ℕ). f.cdb ∷ whole_cdbs l) d, a.reason ∙ ap end_reading d)

left_played :
    (a x : Option (List ℕ)) (h : List ℕ) (ps : List (List ℕ)) (f : Record) → step_at h 0 ≡ Ok f
    → LeftOf a (prepend_known h x) ps → LeftOf a (prepend_known (drop f.next h) x) (ps ++ f.cdb ∷ [])
left_played None x h ps f e w = tt
left_played (Some t) None h ps f e w = absurd w
left_played (Some t) (Some xs) h ps f e w =
    let o = one_record h xs f e in
    (w.0 ∙ rw o.0 (sym (append_assoc ps (f.cdb ∷ []) (whole_cdbs (drop f.next h ++ xs)))), w.1 ∙ o.1)

left_read :
    (a x x' : Option (List ℕ)) (h came all : List ℕ) (ps : List (List ℕ)) → all ≡ h ++ came → Consumes x x' came
    → LeftOf a (prepend_known h x) ps → LeftOf a (prepend_known all x') ps
left_read None x x' h came all ps e k w = tt
left_read (Some t) None x' h came all ps e k w = absurd w
left_read (Some t) (Some xs) None h came all ps e k w = absurd k
left_read (Some t) (Some xs) (Some ys) h came all ps e k w =
    let q : h ++ xs ≡ all ++ ys = ap (λ (l : List ℕ). h ++ l) k ∙ sym (append_assoc h came ys) ∙ ap (λ (l : List ℕ). l ++ ys) (sym e) in
    (w.0 ∙ ap (λ (l : List ℕ). ps ++ whole_cdbs l) q, w.1 ∙ ap end_reading q)

-- the trace has no more records, and ends for this reason
abbrev Ends : Stop → List (List ℕ) → List ℕ → Type 0
Ends s ps t = (whole_cdbs t ≡ ps) × (end_reading t ≡ Some s.reason)

ends_here : (t h : List ℕ) (ps : List (List ℕ)) (s w : Stop) → step_at h 0 ≡ Err w → w.reason ≡ s.reason
    → whole_cdbs t ≡ ps ++ whole_cdbs h → end_reading t ≡ end_reading h → Ends s ps t
ends_here t h ps s w e q a b =
    let z = whole_stop h 0 w e in
    (a ∙ rw z.0 (append-nil ps), b ∙ rw (z.1, e, q))

left_over :
    (a x : Option (List ℕ)) (h : List ℕ) (ps : List (List ℕ)) (s : Stop) → step_at h 0 ≡ Err s → (s.reason ≡ BadMark) ⊎ IsAtEnd x
    → LeftOf a (prepend_known h x) ps → IfSome a (Ends s ps)
unfolding step_at
left_over None x h ps s e k w = tt
left_over (Some t) None h ps s e k w = absurd w
left_over (Some t) (Some xs) h ps s e (inl bad) w =
    ends_here t (h ++ xs) ps s _ (bad_early h xs 0 ((step_stop (reading_of h) 0 s e).0 ∙ ap Err bad)) (sym bad) w.0 w.1
left_over (Some t) (Some xs) h ps s e (inr none) w =
    let q : h ++ xs ≡ h = ap (λ (l : List ℕ). h ++ l) none ∙ append-nil h in
    ends_here t h ps s s e refl (w.0 ∙ ap (λ (l : List ℕ). ps ++ whole_cdbs l) q) (w.1 ∙ ap end_reading q)

-- a read that brings nothing finds a reader at its end
none_left : (x x' : Option (List ℕ)) → Consumes x x' [] → IsAtEnd x' → IsAtEnd x
none_left None x' p q = tt
none_left (Some xs) None p q = absurd p
none_left (Some xs) (Some ys) p q = p ∙ q

pub at_end_before : (x x' : Option (List ℕ)) (n : ℕ) (part : List ℕ) → n ≡ 0 → Consumes x x' (take n part) → IsAtEnd x' → IsAtEnd x
at_end_before x x' n part e p q = none_left x x' (rw e at p) q

kept_appends : (a b c : Option (List ℕ)) (bs : List ℕ) → Keeps a b → Appends b c bs → Appends a c bs
kept_appends None b c bs k q = tt
kept_appends (Some u) None c bs k q = absurd k
kept_appends (Some u) (Some v) None bs k q = absurd q
kept_appends (Some u) (Some v) (Some v') bs k q = q ∙ ap (λ (l : List ℕ). l ++ bs) k

-- the heading and the lines of some records are printed, and these bytes are held
pub record Sofar (x0 x y0 y z0 z : Option (List ℕ)) (h : List ℕ) (r : Replay) : Type 0 where
  pub done : List (List ℕ)
  pub report : Appends y0 y (heading ++ lines start done)
  pub errors : Keeps z0 z
  pub replay : r ≡ replayed start done
  pub left : LeftOf x0 (prepend_known h x) done

pub sofar_first : (x y0 y z : Option (List ℕ)) (r : Replay) → r ≡ start → Appends y0 y heading → Sofar x x y0 y z z [] r
unfolding lines replayed
sofar_first x y0 y z r e printed =
    record {
      done = [];
      report = subst (Appends y0 y) (sym (append-nil heading)) printed;
      errors = Keeps-refl z;
      replay = e;
      left = subst (λ (o : Option (List ℕ)). LeftOf x o []) (sym (prepend_known-nil x)) (left_first x);
    }

module _ (x0 x y0 y z0 z : Option (List ℕ)) (h : List ℕ) (r : Replay) (w : Sofar x0 x y0 y z0 z h r) where
  -- the bytes held begin with a record, which is played
  pub sofar_played :
      (y' : Option (List ℕ)) (f : Record) (p : Played) (rest : List ℕ) → step_at h 0 ≡ Ok f → rest ≡ drop f.next h → Plays r f.cdb p
      → Appends y y' (text_of p.line) → Sofar x0 x y0 y' z0 z rest p.replay
  unfolding lines replayed played
  sofar_played y' f p rest e q v printed =
      let more : (heading ++ lines start w.done) ++ text_of p.line ≡ heading ++ lines start (w.done ++ f.cdb ∷ []) =
      append_assoc heading (lines start w.done) (text_of p.line)
      ∙ ap (λ (l : List ℕ). heading ++ l)
      (rw (v.text, w.replay) (ap (λ (l : List ℕ). lines start w.done ++ l) (sym (append-nil _))) ∙ sym (lines-append start w.done (f.cdb ∷ []))) in
      record {
        done = w.done ++ f.cdb ∷ [];
        report = subst (Appends y0 y') more (Appends-trans y0 y y' (heading ++ lines start w.done) (text_of p.line) w.report printed);
        errors = w.errors;
        replay = rw (v.result, w.replay) (sym (replayed-append start w.done (f.cdb ∷ [])));
        left = rw q (left_played x0 x h w.done f e w.left);
      }

  -- more bytes are held
  pub sofar_read : (x' : Option (List ℕ)) (came all : List ℕ) → all ≡ h ++ came → Consumes x x' came → Sofar x0 x' y0 y z0 z all r
  sofar_read x' came all e k =
      record { done = w.done; report = w.report; errors = w.errors; replay = w.replay; left = left_read x0 x x' h came all w.done e k w.left }

  reported :
      (y' z' : Option (List ℕ)) (s : Stop) (t : List ℕ) → Ends s w.done t
      → Appends y y' (last_text r (Some s.reason)) → Appends z z' (last_text r (Some s.reason))
      → Reported t y0 y' z0 z' (record { replay = r; whole = whole (Some s.reason) })
  unfolding transcript
  reported y' z' s t e printed told =
      let k : r ≡ replayed start (whole_cdbs t) = w.replay ∙ ap (replayed start) (sym e.0) in
      let last = last_text r (Some s.reason) in
      let l : (heading ++ lines start w.done) ++ last ≡ transcript t =
      append_assoc heading (lines start w.done) last ∙ rw (← e.0, k, ← e.1) in
      record {
        report = subst (Appends y0 y') l (Appends-trans y0 y y' (heading ++ lines start w.done) last w.report printed);
        errors = rw e.1 (kept_appends z0 z z' last w.errors told);
        replay = k;
        whole = rw e.1;
      }

  if_some : {P Q : List ℕ → Type 0} (a : Option (List ℕ)) → ((t : List ℕ) → P t → Q t) → IfSome a P → IfSome a Q
  if_some None f g = tt
  if_some (Some t) f g = f t g

  -- the replay is over
  pub sofar_over :
      {E : Type 0} (y' z' : Option (List ℕ)) (s : Stop) (n : Result Ending E) → step_at h 0 ≡ Err s → (s.reason ≡ BadMark) ⊎ IsAtEnd x
      → IfOk n (λ n. n ≡ record { replay = r; whole = whole (Some s.reason) })
      → OnOk n (Appends y y' (last_text r (Some s.reason))) → OnOk n (Appends z z' (last_text r (Some s.reason)))
      → IfOk n (λ n. IfSome x0 (λ t. Reported t y0 y' z0 z' n ⊎ BrokenOff t y0 y' z0 z' n))
  sofar_over y' z' s (Err o) e k q printed told = tt
  sofar_over y' z' s (Ok n) e k q printed told =
      rw q (if_some x0 (λ t v. inl (reported y' z' s t v printed told)) (left_over x0 x h w.done s e k w.left))
