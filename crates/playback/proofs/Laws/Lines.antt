-- Lines that grow byte by byte.
use Rattle.std.proofs.Common.{◌≡◌, ℕ, suc, ◌+◌, ◌-◌, ◌<◌, ◌≤◌, List, [], ◌∷◌, ◌++◌, length, replicate, sym, refl, ap, ◌∙◌, append_assoc, append-nil, arith, length-append, lt-ltb}
use lib.ListN.{length-replicate}
use lib.Seq.{set-append_seam, append_snoc, take-append_seam}
use Rattle.playback.specs.Types.{Line}
use Rattle.playback.specs.Text.{words}
use Rattle.playback.specs.Line.{line_of, text_of, push, append, Printed}

pub append-append : (l : Line) (s t : List ℕ) → append (append l s) t ≡ append l (s ++ t)
unfolding append
append-append l [] t = refl
append-append l (b ∷ s) t = append-append (push l b) s t

pub append-push : (l : Line) (s : List ℕ) (b : ℕ) → push (append l s) b ≡ append l (s ++ (b ∷ []))
unfolding append
append-push l s b = append-append l s (b ∷ [])

-- one byte after a text
push_text : (s : List ℕ) (b : ℕ) → length s < 80 → push (line_of s) b ≡ line_of (s ++ (b ∷ []))
unfolding push line_of
push_text s b h =
    let m = 79 - length s in
    let room : 80 - length s ≡ suc m = omega arith in
    let longer : length (s ++ (b ∷ [])) ≡ length s + 1 = length-append s (b ∷ []) in
    let less : 80 - (length s + 1) ≡ m = omega arith in
    rw (lt-ltb (length s) 80 h, room, longer, less)
    (ap (λ (x : List ℕ). record { bytes = x; length = length s + 1 })
    (set-append_seam s 0 (replicate m 0) b ∙ sym (append_snoc s b (replicate m 0))))

append_text : (s t : List ℕ) → length s + length t ≤ 80 → append (line_of s) t ≡ line_of (s ++ t)
unfolding append
append_text s [] h = rw append-nil
append_text s (b ∷ t) h =
    rw (push_text s b (omega arith)) (append_text (s ++ (b ∷ [])) t (omega (arith, length-append s (b ∷ []))) ∙ ap line_of (append_assoc s (b ∷ []) t))

-- a line that starts empty
pub append_new : (t : List ℕ) → length t ≤ 80 → append (line_of []) t ≡ line_of t
append_new t h = append_text [] t (omega arith)

-- words after a line, one by one
words_more : (l : Line) (w v : List ℕ) (vs : List (List ℕ)) → append l (words w (v ∷ vs)) ≡ append (append (append l w) (0x20 ∷ [])) (words v vs)
unfolding words append
words_more l w v vs = sym (append-append l w (0x20 ∷ words v vs))

words_last : (l : Line) (w : List ℕ) → append l (words w []) ≡ push (append l w) 0x0A
unfolding words append
words_last l w = sym (append-append l w (0x0A ∷ []))

-- the line of six words, and that of two
pub six_words :
    (a b c d e f : List ℕ) → length (words a (b ∷ c ∷ d ∷ e ∷ f ∷ [])) ≤ 80
    → push
    (append
    (append
    (append
    (append (append (append (append (append (append (append (append (line_of []) a) (0x20 ∷ [])) b) (0x20 ∷ [])) c) (0x20 ∷ [])) d) (0x20 ∷ [])) e)
    (0x20 ∷ []))
    f)
    0x0A
    ≡ line_of (words a (b ∷ c ∷ d ∷ e ∷ f ∷ []))
six_words a b c d e f h = rw (← append_new (words a (b ∷ c ∷ d ∷ e ∷ f ∷ [])) h, words_more, words_more, words_more, words_more, words_more, words_last)

pub two_words :
    (a : List ℕ) (x y z : ℕ) → length (words a ((x ∷ y ∷ z ∷ []) ∷ [])) ≤ 80
    → push (push (push (push (append (append (line_of []) a) (0x20 ∷ [])) x) y) z) 0x0A ≡ line_of (words a ((x ∷ y ∷ z ∷ []) ∷ []))
unfolding append
two_words a x y z h = rw (← append_new (words a ((x ∷ y ∷ z ∷ []) ∷ [])) h, words_more, words_last)

-- a line of a text that fits
pub printed : (text : List ℕ) (r : Line) → length text ≤ 80 → r ≡ line_of text → Printed text r
unfolding line_of
printed text r h e =
    record {
      line = e;
      fits = rw e (omega (arith, length-append text (replicate (80 - length text) 0), length-replicate {A = ℕ} (80 - length text) 0));
    }

pub printed_text : (text : List ℕ) (l : Line) → Printed text l → text_of l ≡ text
unfolding line_of
printed_text text l w = rw w.line (take-append_seam text (replicate (80 - length text) 0))
