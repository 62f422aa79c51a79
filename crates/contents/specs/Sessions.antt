-- The closed sessions of a fragment list.
use Rattle.std.specs.Prelude.{ℕ, Bool, cond, ◌||◌, List, [], ◌∷◌, eqb, ltb}
use Rattle.contents.specs.Types.{Fragment, Sessions}
use Rattle.fragments.specs.Fragment.{unused_record}
use Rattle.fragments.specs.List.{listed, last_of}

-- a session is closed if it comes before the last one, and on a finalized disc in any case
abbrev pub is_closed : Bool → ℕ → Fragment → Bool
is_closed finalized last f = finalized || ltb f.session last

-- those of some fragments whose session is closed; `last` is the number of the last session
unfoldable pub closed_of : Bool → ℕ → List Fragment → List Fragment
closed_of finalized last [] = []
closed_of finalized last (f ∷ fs) = cond (is_closed finalized last f) (f ∷ closed_of finalized last fs) (closed_of finalized last fs)

-- the first fragment of each session, in list order; the fragment before them all is of the session `before`
unfoldable pub firsts : ℕ → List Fragment → List Fragment
firsts before [] = []
firsts before (f ∷ fs) = cond (eqb f.session before) (firsts f.session fs) (f ∷ firsts f.session fs)

-- the last of some fragments; f where there is none
unfoldable pub last_from : Fragment → List Fragment → Fragment
last_from f [] = f
last_from f (g ∷ gs) = last_from g gs

abbrev pub last_fragment : List Fragment → Fragment
last_fragment fs = last_from unused_record fs

-- the session of the last record, of all records of a disc
abbrev pub last_session : List Fragment → ℕ
last_session fs = (last_of fs).fragment.session

-- the fragments of the closed sessions, and the closed sessions themselves, each by its first fragment; no session has the number 0
abbrev pub closed_fragments : Bool → List Fragment → List Fragment
closed_fragments finalized fs = closed_of finalized (last_session fs) (listed fs)

abbrev pub closed_sessions : Bool → List Fragment → List Fragment
closed_sessions finalized fs = closed_of finalized (last_session fs) (firsts 0 (listed fs))

-- the closed sessions that an iterator of them has left
abbrev pub sessions_left : Sessions → List Fragment
sessions_left s = closed_of s.closing.finalized s.closing.last (firsts s.before s.records.now)
