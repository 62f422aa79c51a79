-- The example sequence meets every condition of demand 3.
use Prim.Native.Nat.{ℕ}
use mathlib.Core.Path.{◌≡◌, refl, sym, ap, ◌∙◌, subst}
use mathlib.Core.Bool.{true}
use mathlib.Core.List.{List, [], ◌∷◌, ◌++◌, map, map-append}
use native.Mathlib.Omega.{arith}
use lib.ListN.{length, replicate, length-replicate}
use Rattle.protocol.specs.Answer.{number, is_refusal_sense, allowed_sense}
use Rattle.disc.specs.Blank.{blank}
use Rattle.protocol.specs.Command.{decode}
use Rattle.fragments.specs.List.{listed, some, every, find, sum_recorded}
use Rattle.disc.specs.Sound.{used_first, first_at_zero, follows_from, in_order, ends_within, recorded_within, zeroed_within, incomplete_last, tail_last, tail_or_full, pending_named, finalized_complete, sound, allowed_state}
use Rattle.protocol.specs.Lengths.{data_length, reply_room, lengths_fit}
use Rattle.commands.specs.Flush.{flush, flush_plan, synchronize_cache}
use Rattle.commands.specs.Read.{all_readable, read}
use Rattle.commands.specs.Write.{flush_others, flush_others_plan, gather, write_to, write_found, write}
use Rattle.commands.specs.Reserve.{split_tail, reserve}
use Rattle.commands.specs.Close.{append_tail, close_incomplete, close_fragment, close}
use Rattle.commands.specs.Judge.{perform, judge_command, judge}
use Rattle.disc.specs.Verdict.{accepted, accept, refuse, refuse_link}
use Rattle.drive.specs.Step.{Drive, Request, lent, step}
use Rattle.drive.proofs.Laws.Bytes.{length-zeros}
use Rattle.drive.proofs.Laws.Alike.{lent-after, step_judges}
use Rattle.history.specs.Types.{Disc, Accepted}
use Rattle.history.specs.Sequence.{Start, Turn, final}
use Rattle.history.specs.Cut.{Again, ends, same, cut}
use Rattle.history.specs.Forms.{ten, write_opcode, fields, write_cdb}
use Rattle.history.specs.Examples.{as_left, steady}
use Rattle.history.specs.Witness.{numbers, Shape, shape, shape_of, disc_after, filled, judged, before, cut_write, cut_first, cut_second, rest, zero_start, first_run, second_run}
use Rattle.history.proofs.Laws.Served.{start-lent}
use Rattle.history.proofs.Laws.Examples.{whole_sectors, cut_in_two}

-- a steady sequence by its shapes
pub steady-disc :
    (qs : List Request) (s : Drive) → lent s.disc (length s.medium) (length s.pending) ≡ true
    → (final (steady qs s) s).disc ≡ disc_after (map shape_of qs) s.disc
unfolding final steady disc_after
steady-disc [] s l = refl
steady-disc (q ∷ qs) s l =
    steady-disc qs (step s q).after (lent-after s q l) ∙ ap (λ (d : Disc). disc_after (map shape_of qs) d) (step_judges s q l).1

steady-lent :
    (qs : List Request) (s : Drive) → lent s.disc (length s.medium) (length s.pending) ≡ true
    → lent (final (steady qs s) s).disc (length (final (steady qs s) s).medium) (length (final (steady qs s) s).pending) ≡ true
unfolding final steady
steady-lent [] s l = l
steady-lent (q ∷ qs) s l = steady-lent qs (step s q).after (lent-after s q l)

steady-numbers :
    (qs : List Request) (s : Drive) → lent s.disc (length s.medium) (length s.pending) ≡ true
    → numbers (steady qs s) s ≡ judged (map shape_of qs) s.disc
unfolding numbers steady judged
steady-numbers [] s l = refl
steady-numbers (q ∷ qs) s l =
    let j = step_judges s q l in
    ap (λ (n : ℕ). n ∷ numbers (steady qs (step s q).after) (step s q).after) (ap number j.0)
    ∙ ap (λ (ns : List ℕ). number (judge s.disc q.cdb (length q.payload) (length q.buffer)).answer ∷ ns)
    (steady-numbers qs (step s q).after (lent-after s q l) ∙ ap (judged (map shape_of qs)) j.1)

-- requests made of shapes have those shapes
filled-shape : (x : ℕ) (h : Shape) → shape_of (filled x h) ≡ h
filled-shape x h = ap (λ (n : ℕ). shape h.cdb n (length (replicate h.room x))) (length-replicate h.payload x) ∙ ap (λ (n : ℕ). shape h.cdb h.payload n) (length-replicate h.room x)

filled_shapes : (x : ℕ) (hs : List Shape) → map shape_of (map (filled x) hs) ≡ hs
filled_shapes x [] = refl
filled_shapes x (h ∷ hs) =
    ap (λ (g : Shape). g ∷ map shape_of (map (filled x) hs)) (filled-shape x h) ∙ ap (λ (gs : List Shape). h ∷ gs) (filled_shapes x hs)

-- one steady sequence after another
steady-append : (ps qs : List Request) (s : Drive) → steady (ps ++ qs) s ≡ steady ps s ++ steady qs (final (steady ps s) s)
unfolding final steady
steady-append [] qs s = refl
steady-append (p ∷ ps) qs s = ap (λ (ts : List Turn). as_left p s ∷ ts) (steady-append ps qs (step s p).after)

-- the same commands in both sequences
again_prefix :
    (ps : List Request) (s e : Drive) (ts us : List Turn) → Again (final (steady ps s) s) ts us → Again s (steady ps s ++ ts) (steady ps e ++ us)
unfolding final steady
again_prefix [] s e ts us w = w
again_prefix (p ∷ ps) s e ts us w =
    same s (as_left p s) (as_left p e) _ _ (record { cdb = refl; payload = refl; room = refl })
    (again_prefix ps (step s p).after (step e p).after ts us w)

-- what the list of the example comes to, computed: the WRITE in its place, and all answers
computed :
    ((judge (disc_after before (blank 300)) (write_cdb ten 84 2) 4096 0).answer ≡ Accepted)
    × (judged (before ++ (shape (write_cdb ten 84 2) 4096 0 ∷ rest)) (blank 300) ≡ 1 ∷ 4 ∷ 0x052000 ∷ 0 ∷ 0 ∷ 0 ∷ 0 ∷ 0 ∷ 0 ∷ 0 ∷ [])
unfolding disc_after judged decode write_opcode fields listed some every find sum_recorded used_first first_at_zero follows_from in_order ends_within recorded_within zeroed_within incomplete_last tail_last tail_or_full pending_named finalized_complete sound allowed_state is_refusal_sense allowed_sense blank data_length reply_room lengths_fit accepted accept refuse refuse_link flush flush_plan all_readable read flush_others flush_others_plan gather write_to write_found write split_tail reserve append_tail close_incomplete close_fragment close synchronize_cache perform judge_command judge
computed = (refl, refl)

-- the whole example by its shapes
abbrev pub run_shapes : List Shape
run_shapes = before ++ (shape (write_cdb ten 84 2) 4096 0 ∷ rest)

pub run_shapes_lem : map shape_of first_run ≡ run_shapes
run_shapes_lem =
    map-append shape_of (map (filled 0) before) (cut_write ∷ map (filled 0) rest)
    ∙ (ap (λ (hs : List Shape). hs ++ map shape_of (cut_write ∷ map (filled 0) rest)) (filled_shapes 0 before)
    ∙ (ap (λ (n : ℕ). before ++ (shape (write_cdb ten 84 2) n 0 ∷ map shape_of (map (filled 0) rest))) whole_sectors
    ∙ ap (λ (hs : List Shape). before ++ (shape (write_cdb ten 84 2) 4096 0 ∷ hs)) (filled_shapes 0 rest)))

again_steady : (rs : List Request) (s e : Drive) → Again s (steady rs s) (steady rs e)
unfolding steady
again_steady [] s e = ends s
again_steady (r ∷ rs) s e =
    same s (as_left r s) (as_left r e) _ _ (record { cdb = refl; payload = refl; room = refl }) (again_steady rs (step s r).after (step e r).after)

-- from every start of 300 blocks, over any bytes: the WRITE is accepted in its place
module _ (s : Drive) (start : Start 300 s) where
  place : Drive
  place = final (steady (map (filled 0) before) s) s

  place-disc : place.disc ≡ disc_after before (blank 300)
  unfolding place
  place-disc =
      steady-disc (map (filled 0) before) s (start-lent 300 s start)
      ∙ (ap (λ (hs : List Shape). disc_after hs s.disc) (filled_shapes 0 before) ∙ ap (disc_after before) start.disc)

  place-lent : lent place.disc (length place.medium) (length place.pending) ≡ true
  unfolding place
  place-lent = steady-lent (map (filled 0) before) s (start-lent 300 s start)

  write-accepted : (step place cut_write).answer ≡ Accepted
  write-accepted =
      (step_judges place cut_write place-lent).0
      ∙ (ap (λ (d : Disc). (judge d (write_cdb ten 84 2) (length cut_write.payload) 0).answer) place-disc
      ∙ (ap (λ (n : ℕ). (judge (disc_after before (blank 300)) (write_cdb ten 84 2) n 0).answer) whole_sectors ∙ computed.0))

  -- the answers: L1, L4, 5/20/00, and seven commands accepted
  pub witness-numbers : numbers (steady first_run s) s ≡ 1 ∷ 4 ∷ 0x052000 ∷ 0 ∷ 0 ∷ 0 ∷ 0 ∷ 0 ∷ 0 ∷ 0 ∷ []
  witness-numbers =
      steady-numbers first_run s (start-lent 300 s start)
      ∙ (ap (λ (hs : List Shape). judged hs s.disc) run_shapes_lem
      ∙ (ap (judged (before ++ (shape (write_cdb ten 84 2) 4096 0 ∷ rest))) start.disc ∙ computed.1))

  -- the same again with the WRITE cut, from any other start
  pub witness-again : (e : Drive) → Again s (steady first_run s) (steady second_run e)
  unfolding place steady final
  witness-again e =
      let ps = map (filled 0) before in
      let rs = map (filled 0) rest in
      let x = final (steady ps e) e in
      let y = (step (step x cut_first).after cut_second).after in
      subst (λ (ts : List Turn). Again s ts (steady second_run e)) (sym (steady-append ps (cut_write ∷ rs) s))
      (subst (λ (us : List Turn). Again s (steady ps s ++ steady (cut_write ∷ rs) (final (steady ps s) s)) us)
      (sym (steady-append ps (cut_first ∷ cut_second ∷ rs) e))
      (again_prefix ps s e _ _
      (cut place (as_left cut_write place) (steady rs (step place cut_write).after) (steady (cut_first ∷ cut_second ∷ []) x) (steady rs y) _
      write-accepted (cut_in_two 84 (omega arith)) (again_steady rs (step place cut_write).after y) refl)))

-- a start of 300 blocks is there
pub zero_start_lem : Start 300 zero_start
zero_start_lem = record { range = refl; disc = refl; medium = length-zeros 9830400; pending = length-zeros 32768 }
