-- What READ TOC (43h) says of a fragment list, uncut.
use Rattle.std.specs.Prelude.{ℕ, ◌+◌, Bool, cond, not, ◌&&◌, ◌||◌, List, [], ◌∷◌, ◌++◌, length, eqb, leb}
use Rattle.contents.specs.Types.{Fragment}
use Rattle.features.specs.Bytes.{bytes16}
use Rattle.fragments.specs.Address.{first_sector}
use Rattle.fragments.specs.Fragment.{end}
use Rattle.fragments.specs.List.{some}
use Rattle.contents.specs.Sessions.{last_fragment, closed_fragments, closed_sessions}
use Rattle.contents.specs.Entry.{entry}

-- the number of the lead-out's entry, which no session has
abbrev pub lead_out : ℕ
lead_out = 0xAA

-- a session's entry, by its first fragment: its number, and the address of its first sector
abbrev pub session_entry : ℕ → Fragment → List ℕ
session_entry time f = entry time f.session (first_sector f.start)

-- an entry for each of some sessions, from a starting number on
unfoldable pub session_entries : ℕ → ℕ → List Fragment → List ℕ
session_entries time start [] = []
session_entries time start (f ∷ fs) =
    cond (leb start f.session) (session_entry time f ++ session_entries time start fs) (session_entries time start fs)

-- form 0: the closed sessions from a starting number on, then the lead-out, which begins where the last closed session ends
abbrev pub sessions_form : Bool → List Fragment → ℕ → ℕ → List ℕ
sessions_form finalized fs time start =
    session_entries time start (closed_sessions finalized fs)
    ++ entry time lead_out (first_sector (end (last_fragment (closed_fragments finalized fs))))

-- form 1: the last closed session
abbrev pub last_form : Bool → List Fragment → ℕ → List ℕ
last_form finalized fs time = session_entry time (last_fragment (closed_sessions finalized fs))

-- the entries of a form; any but 0 counts as 1 here, and is refused below
abbrev pub toc_entries : Bool → List Fragment → ℕ → ℕ → ℕ → List ℕ
toc_entries finalized fs form time start = cond (eqb form 0) (sessions_form finalized fs time start) (last_form finalized fs time)

-- a table of these entries: the length of all that follows it (never cut), the numbers of the first and the last closed session, the entries
abbrev pub table_of : ℕ → List ℕ → List ℕ
table_of last entries = bytes16 (2 + length entries) ++ 1 ∷ last ∷ entries

-- the table of contents
unfoldable pub toc_bytes : Bool → List Fragment → ℕ → ℕ → ℕ → List ℕ
toc_bytes finalized fs form time start =
    table_of (last_fragment (closed_fragments finalized fs)).session (toc_entries finalized fs form time start)

-- whether there is one to show: some session is closed, and the form is 1, or 0 with a starting number that is 0, the lead-out's or that of a
-- closed session
unfoldable pub toc_served : Bool → List Fragment → ℕ → ℕ → Bool
toc_served finalized fs form start =
    let sessions = closed_sessions finalized fs in
    not (eqb (length sessions) 0)
    && (eqb form 1 || eqb form 0 && (eqb start 0 || eqb start lead_out || some (λ f. eqb f.session start) sessions))

-- the length of the whole table, 0 where there is none
unfoldable pub toc_length : Bool → List Fragment → ℕ → ℕ → ℕ → ℕ
toc_length finalized fs form time start = cond (toc_served finalized fs form start) (length (toc_bytes finalized fs form time start)) 0
