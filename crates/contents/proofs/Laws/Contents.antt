-- The entries of the closed sessions put into the buffer, a turn of the walk along the sessions at a time, and the same of a walk along the
-- records by their index.
use Prim.Native.Nat.{ℕ, ◌+◌, ◌-◌, ◌*◌, ◌≤◌, ◌<◌}
use mathlib.Core.Path.{◌≡◌, refl, sym, ap, ◌∙◌}
use mathlib.Core.Bool.{Bool, cond, not, ◌&&◌}
use mathlib.Core.List.{List, [], ◌∷◌, ◌++◌}
use native.Mathlib.Omega.{arith}
use lib.ListN.{length, get_or, take, drop, length-append}
use lib.Seq.{take_all}
use lib.Dec.{eqb, leb}
use borrow.Author.Tests.{eq-eqb, ne_eqb, le-leb, lt-leb}
use Rattle.contents.specs.Types.{Lba, Fragment}
use Rattle.fragments.specs.Address.{first_sector}
use Rattle.fragments.specs.Fragment.{end}
use Rattle.fragments.specs.List.{limit, listed}
use Rattle.fragments.proofs.Laws.Bool.{by_cases, cond_yes, cond_no}
use Rattle.fragments.proofs.Laws.List.{listed-drop-off, listed-drop-on, listed-drop-end}
use Rattle.features.specs.Bytes.{bytes16, stored}
use Rattle.features.proofs.Laws.Bytes.{stored_parts, length-stored}
use Rattle.contents.proofs.Laws.Stored.{stored_front}
use Rattle.contents.specs.Sessions.{is_closed, closed_of, firsts, last_fragment, last_session, closed_fragments}
use Rattle.contents.specs.Entry.{entry}
use Rattle.contents.specs.Contents.{session_entry, session_entries, lead_out, toc_entries, table_of}

-- an entry has eight bytes
pub entry_length : (t n : ℕ) (a : Lba) → length (entry t n a) ≡ 8
entry_length t n a = by_cases (eqb t 0) (λ e. rw e) (λ e. rw e)

-- bytes that are put after the header, part by part: `all` of them, of which `rest` is left, n parts of eight bytes at the most
pub record Putting (reply₀ all rest : List ℕ) (n : ℕ) (reply : List ℕ) (at : ℕ) : Type 0 where
  pub most : at + 8 * n ≤ 4 + 8 * limit
  pub bytes : stored reply₀ 4 all ≡ stored reply at rest
  pub place : 4 + length all ≡ at + length rest
  pub size : length reply ≡ length reply₀

pub putting_start : (reply all : List ℕ) (n : ℕ) → n ≤ limit → Putting reply all all n reply 4
putting_start reply all n h = record { most = omega arith; bytes = refl; place = refl; size = refl }

-- the entry of a session, or none
module _ (reply₀ all : List ℕ) (t s : ℕ) (f : Fragment) (fs left : List Fragment) (reply : List ℕ) (at : ℕ) (more : left ≡ f ∷ fs) where
  pub putting_on :
      (made reply₁ : List ℕ) (at₁ : ℕ) → Putting reply₀ all (session_entries t s left) (length left) reply at → s ≤ f.session
      → made ≡ session_entry t f → at₁ ≡ at + length made → reply₁ ≡ stored reply at made
      → Putting reply₀ all (session_entries t s fs) (length fs) reply₁ at₁
  unfolding session_entries
  putting_on made reply₁ at₁ w h m e put =
      let x = session_entry t f in
      let rest = session_entries t s fs in
      let w' = rw (more, le-leb s f.session h) at w in
      let eight = entry_length t f.session (first_sector f.start) in
      let e' : at₁ ≡ at + length x = rw m at e in
      let put' : reply₁ ≡ stored reply at x = rw m at put in
      record {
        most = omega (arith, w'.most, e', eight);
        bytes = w'.bytes ∙ (sym (stored_parts reply at x rest) ∙ rw (e', put'));
        place = omega (arith, w'.place, e', length-append x rest);
        size = ap length put' ∙ (length-stored reply at x ∙ w'.size);
      }

  pub putting_off :
      Putting reply₀ all (session_entries t s left) (length left) reply at → f.session < s → Putting reply₀ all (session_entries t s fs) (length fs) reply at
  unfolding session_entries
  putting_off w h =
      let w' = rw (more, lt-leb s f.session h) at w in
      record { most = omega (arith, w'.most); bytes = w'.bytes; place = w'.place; size = w'.size }

pub putting_done :
    (reply₀ all : List ℕ) (t s : ℕ) (left : List Fragment) (reply : List ℕ) (at : ℕ)
    → Putting reply₀ all (session_entries t s left) (length left) reply at → left ≡ []
    → (at ≡ 4 + length all) × ((reply ≡ stored reply₀ 4 all) × (at ≤ 4 + 8 * limit))
unfolding stored session_entries
putting_done reply₀ all t s left reply at w none =
    let w' = rw none at w in
    (omega (arith, w'.place), (sym w'.bytes, omega (arith, w'.most)))

-- the entries of a form, put after the header
module _ (l : List ℕ) (z : Bool) (fs rs ss : List Fragment) (k f t s : ℕ) (last : last_session fs ≡ k) (in-use : rs ≡ listed fs) (closed : ss ≡ closed_of z k (firsts 0 rs)) where
  abbrev pub PutEntries : List ℕ → ℕ → Type 0
  PutEntries after n = (n ≡ 4 + length (toc_entries z fs f t s)) × (after ≡ stored l 4 (toc_entries z fs f t s))

  pub sessions-put :
      (first after made : List ℕ) (at n : ℕ) (g : Fragment) (a : Lba) → f ≡ 0 → g ≡ last_fragment (closed_of z k rs)
      → at ≡ 4 + length (session_entries t s ss) → first ≡ stored l 4 (session_entries t s ss)
      → a ≡ first_sector (end g) → made ≡ entry t lead_out a → n ≡ at + length made → after ≡ stored first at made → PutEntries after n
  sessions-put first after made at n g a form0 e place bytes q m more put =
      let x = session_entries t s (closed_of z k (firsts 0 (listed fs))) in
      let y = entry t lead_out (first_sector (end (last_fragment (closed_of z k (listed fs))))) in
      let whole : toc_entries z fs f t s ≡ x ++ y = cond_yes (eqb f 0) _ _ (eq-eqb f 0 form0) ∙ rw last in
      let same : made ≡ y = rw (m, q, e, in-use) in
      rw whole (
        omega (arith, rw (closed, in-use) at place, rw same at more, length-append x y),
        rw (put, same, bytes, place, closed, in-use) (stored_parts l 4 x y),
      )

  pub last-put :
      (after made : List ℕ) (n : ℕ) (g : Fragment) (a : Lba) → (f ≡ 0 → ⊥) → g ≡ last_fragment ss
      → a ≡ first_sector g.start → made ≡ entry t g.session a → n ≡ 4 + length made → after ≡ stored l 4 made → PutEntries after n
  last-put after made n g a form1 e q m more put =
      let y = session_entry t (last_fragment (closed_of z k (firsts 0 (listed fs)))) in
      let whole : toc_entries z fs f t s ≡ y = cond_no (eqb f 0) _ _ (ne_eqb f 0 form1) ∙ rw last in
      let same : made ≡ y = rw (m, q, e, closed, in-use) in
      rw whole (rw same at more, rw same at put)

-- the header put before them
pub table-put :
    (l entries middle made after : List ℕ) (n last : ℕ) → n ≡ 4 + length entries → middle ≡ stored l 4 entries
    → made ≡ bytes16 (2 + (n - 4)) ++ 1 ∷ last ∷ [] → after ≡ stored middle 0 made → after ≡ stored l 0 (table_of last entries)
table-put l entries middle made after n last size one head two =
    let k : n - 4 ≡ length entries = omega (arith, size) in
    rw (two, head, one, k) (stored_front l _ _ _ _ entries)

-- of a walk along the records by their index: whether a fragment is the first one of a closed session, from a starting number on, and the bytes
-- of its entry then; the fragment before it is of the session `before`, and `last` is the number of the last session
abbrev pub is_shown : Bool → ℕ → ℕ → ℕ → Fragment → Bool
is_shown finalized last before start f = not (eqb f.session before) && is_closed finalized last f && leb start f.session

abbrev pub shown_entry : Bool → ℕ → ℕ → ℕ → ℕ → Fragment → List ℕ
shown_entry finalized last before time start f = cond (is_shown finalized last before start f) (session_entry time f) []

pub shown_most : (z : Bool) (k b t s : ℕ) (f : Fragment) → length (shown_entry z k b t s f) ≤ 8
shown_most z k b t s f =
    by_cases (is_shown z k b s f) (λ e. rw e (omega (arith, entry_length t f.session (first_sector f.start)))) (λ e. rw e (omega arith))

-- one fragment more
shown_next :
    (z : Bool) (k b t s : ℕ) (f : Fragment) (fs : List Fragment)
    → session_entries t s (closed_of z k (firsts b (f ∷ fs))) ≡ shown_entry z k b t s f ++ session_entries t s (closed_of z k (firsts f.session fs))
unfolding firsts closed_of session_entries
shown_next z k b t s f fs =
    by_cases (eqb f.session b) (λ e. rw e)
    (λ e. by_cases (is_closed z k f) (λ q. by_cases (leb s f.session) (λ h. rw (e, q, h)) (λ h. rw (e, q, h))) (λ q. rw (e, q)))

module _ (z : Bool) (k t s : ℕ) (fs : List Fragment) (i b : ℕ) (d : Fragment) where
  pub entries-on :
      i < length fs → ((get_or fs i d).length ≡ 0 → ⊥)
      → session_entries t s (closed_of z k (firsts b (listed (drop i fs))))
      ≡ shown_entry z k b t s (get_or fs i d) ++ session_entries t s (closed_of z k (firsts (get_or fs i d).session (listed (drop (i + 1) fs))))
  entries-on h e = rw (listed-drop-on fs i d h e) (shown_next z k b t s (get_or fs i d) (listed (drop (i + 1) fs)))

  pub entries-off : i < length fs → (get_or fs i d).length ≡ 0 → session_entries t s (closed_of z k (firsts b (listed (drop i fs)))) ≡ []
  unfolding firsts closed_of session_entries
  entries-off h e = rw (listed-drop-off fs i d h e)

  pub entries-end : length fs ≤ i → session_entries t s (closed_of z k (firsts b (listed (drop i fs)))) ≡ []
  unfolding firsts closed_of session_entries
  entries-end h = rw (listed-drop-end fs i h)

-- bytes that are put after the header, part by part: `all` of them, of which `rest` is left after i parts of eight bytes at the most
pub record Placing (reply₀ all rest : List ℕ) (i : ℕ) (reply : List ℕ) (at : ℕ) : Type 0 where
  pub turns : i ≤ limit
  pub most : at ≤ 4 + 8 * i
  pub bytes : stored reply₀ 4 all ≡ stored reply at rest
  pub place : 4 + length all ≡ at + length rest
  pub size : length reply ≡ length reply₀

pub placing_start : (reply all : List ℕ) → Placing reply all all 0 reply 4
placing_start reply all = record { turns = omega arith; most = omega arith; bytes = refl; place = refl; size = refl }

pub placing_on :
    (reply₀ all x rest : List ℕ) (i : ℕ) (reply reply₁ : List ℕ) (at at₁ : ℕ) → Placing reply₀ all (x ++ rest) i reply at → i < limit → length x ≤ 8
    → at₁ ≡ at + length x → reply₁ ≡ stored reply at x → Placing reply₀ all rest (i + 1) reply₁ at₁
placing_on reply₀ all x rest i reply reply₁ at at₁ w h few e put =
    record {
      turns = omega arith;
      most = omega (arith, w.most);
      bytes = w.bytes ∙ (sym (stored_parts reply at x rest) ∙ rw (e, put));
      place = omega (arith, w.place, e, length-append x rest);
      size = ap length put ∙ (length-stored reply at x ∙ w.size);
    }

pub placing_done :
    (reply₀ all rest : List ℕ) (i : ℕ) (reply : List ℕ) (at : ℕ) → Placing reply₀ all rest i reply at → rest ≡ []
    → (at ≡ 4 + length all) × ((reply ≡ stored reply₀ 4 all) × (at ≤ 4 + 8 * limit))
unfolding stored
placing_done reply₀ all rest i reply at w e =
    let place : 4 + length all ≡ at + length rest = w.place in
    let none : length rest ≡ 0 = ap length e in
    (omega (arith, place, none), (sym (w.bytes ∙ rw e), omega (arith, w.most, w.turns)))

-- an entry that is put whole, from the part of it that is lent
pub entry-put :
    (l : List ℕ) (at t n : ℕ) (a : Lba) (made after : List ℕ) → made ≡ entry t n a → after ≡ stored l at (take 8 made)
    → (at + 8 ≡ at + length (entry t n a)) × (after ≡ stored l at (entry t n a))
entry-put l at t n a made after e put =
    let size = entry_length t n a in
    let whole : take 8 made ≡ entry t n a = rw e (take_all 8 (entry t n a) (omega (arith, size))) in
    (omega (arith, size), put ∙ ap (stored l at) whole)

-- the entries of a form after the header, the place after them within the longest table
module _ (l : List ℕ) (z : Bool) (fs : List Fragment) (k f t s : ℕ) (last : last_session fs ≡ k) where
  abbrev pub PlacedEntries : List ℕ → ℕ → Type 0
  PlacedEntries after n = (n ≡ 4 + length (toc_entries z fs f t s)) × ((after ≡ stored l 4 (toc_entries z fs f t s)) × (n ≤ 4 + 8 * (limit + 1)))

  pub sessions-placed :
      (first after made : List ℕ) (at : ℕ) (g : Fragment) (a : Lba) → f ≡ 0 → g ≡ last_fragment (closed_fragments z fs)
      → (at ≡ 4 + length (session_entries t s (closed_of z k (firsts 0 (listed fs))))) × ((first ≡ stored l 4 (session_entries t s (closed_of z k (firsts 0 (listed fs))))) × (at ≤ 4 + 8 * limit))
      → a ≡ first_sector (end g) → made ≡ entry t lead_out a → after ≡ stored first at (take 8 made) → PlacedEntries after (at + 8)
  sessions-placed first after made at g a form0 e w q made-entry put =
      let x = session_entries t s (closed_of z k (firsts 0 (listed fs))) in
      let p = entry-put first at t lead_out a made after made-entry put in
      let both : after ≡ stored l 4 (x ++ entry t lead_out a) = p.1 ∙ (rw (w.0, w.1.0) (stored_parts l 4 x (entry t lead_out a))) in
      let ends : first_sector (end (last_fragment (closed_fragments z fs))) ≡ a = sym (q ∙ ap (λ (h : Fragment). first_sector (end h)) e) in
      let whole : toc_entries z fs f t s ≡ x ++ entry t lead_out a =
      cond_yes (eqb f 0) _ _ (eq-eqb f 0 form0)
      ∙ (ap (λ (n : ℕ). session_entries t s (closed_of z n (firsts 0 (listed fs))) ++ entry t lead_out (first_sector (end (last_fragment (closed_fragments z fs))))) last
      ∙ ap (λ (b : Lba). x ++ entry t lead_out b) ends) in
      rw whole (omega (arith, w.0, p.0, length-append x (entry t lead_out a)), (both, omega (arith, w.1.1)))

  pub last-placed :
      (after made : List ℕ) (g : Fragment) (a : Lba) → (f ≡ 0 → ⊥) → g ≡ last_fragment (closed_of z k (firsts 0 (listed fs)))
      → a ≡ first_sector g.start → made ≡ entry t g.session a → after ≡ stored l 4 (take 8 made) → PlacedEntries after 12
  last-placed after made g a form1 e q made-entry put =
      let p = entry-put l 4 t g.session a made after made-entry put in
      let whole : toc_entries z fs f t s ≡ entry t g.session a =
      cond_no (eqb f 0) _ _ (ne_eqb f 0 form1)
      ∙ (ap (λ (n : ℕ). session_entry t (last_fragment (closed_of z n (firsts 0 (listed fs))))) last
      ∙ (ap (session_entry t) (sym e) ∙ ap (entry t g.session) (sym q))) in
      rw whole (omega (arith, p.0), (p.1, omega arith))

-- the header put before them
pub table-placed :
    (l entries middle made after : List ℕ) (n last : ℕ) → n ≡ 4 + length entries → middle ≡ stored l 4 entries
    → made ≡ bytes16 (2 + (n - 4)) ++ 1 ∷ last ∷ [] → after ≡ stored middle 0 (take 4 made) → after ≡ stored l 0 (table_of last entries)
table-placed l entries middle made after n last size one head two =
    let k : n - 4 ≡ length entries = omega (arith, size) in
    let made-head : take 4 made ≡ bytes16 (2 + length entries) ++ 1 ∷ last ∷ [] = rw (head, k) (take_all 4 _ (omega arith)) in
    two ∙ (rw (made-head, one) (stored_front l _ _ _ _ entries))
