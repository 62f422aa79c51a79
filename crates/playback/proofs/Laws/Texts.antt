-- Digits: how many there are, and that more places change nothing.
use Rattle.std.proofs.Common.{◌≡◌, ℕ, zero, suc, ◌+◌, ◌/◌, ◌%◌, ◌^◌, ◌<◌, ◌≤◌, Bool, true, false, ltb, List, [], ◌∷◌, ◌++◌, length, refl, ap, arith, length-append, le-ltb, lt-ltb}
use native.Mathlib.Nat.{pow-succ'}
use Rattle.playback.specs.Types.{Sense, Lba, Option, Some, None}
use Rattle.playback.specs.Text.{digit, digits, decimal, hex, next_text, words, record_text}

by_cases {ℓ} : {P : Type ℓ} (b : Bool) → (b ≡ true → P) → (b ≡ false → P) → P
by_cases true yes-case no-case = yes-case refl
by_cases false yes-case no-case = no-case refl

-- a number that places hold has the same digits with one place more
digits_more : (k n : ℕ) → n < 10 ^ suc k → digits (suc k) n ≡ digits (suc (suc k)) n
unfolding digits
digits_more zero n h = rw (lt-ltb n 10 h)
digits_more (suc k) n h =
    by_cases (ltb n 10)
    (λ t. rw t)
    (λ t. rw t (ap (λ (x : List ℕ). x ++ (digit (n % 10) ∷ [])) (digits_more k (n / 10) (omega (arith, pow-succ' 10 (suc k))))))

-- the digits of a number of 64 bits from 10 up: those of its tenth, and the last one
pub decimal_more : (n : ℕ) → n < 2 ^ 64 → 10 ≤ n → decimal n ≡ decimal (n / 10) ++ (digit (n % 10) ∷ [])
unfolding digits
decimal_more n h k = rw (le-ltb n 10 k) (ap (λ (x : List ℕ). x ++ (digit (n % 10) ∷ [])) (digits_more 18 (n / 10) (omega arith)))

pub decimal_one : (n : ℕ) → n < 10 → decimal n ≡ digit n ∷ []
unfolding digits
decimal_one n h = rw (lt-ltb n 10 h)

-- no more digits than places
digits-length : (k n : ℕ) → length (digits k n) ≤ k
unfolding digits
digits-length zero n = omega arith
digits-length (suc k) n =
    by_cases (ltb n 10)
    (λ t. rw t (omega arith))
    (λ t. rw t (omega (arith, digits-length k (n / 10), length-append (digits k (n / 10)) (digit (n % 10) ∷ []))))

decimal-length : (n : ℕ) → length (decimal n) ≤ 20
decimal-length n = digits-length 20 n

next_length : (next : Option Lba) → length (next_text next) ≤ 20
unfolding next_text
next_length (Some a) = decimal-length a.0
next_length None = omega arith

words_last_length : (w : List ℕ) → length (words w []) ≡ length w + 1
unfolding words
words_last_length w = length-append w (0x0A ∷ [])

words_more_length : (w v : List ℕ) (vs : List (List ℕ)) → length (words w (v ∷ vs)) ≡ length w + suc (length (words v vs))
unfolding words
words_more_length w v vs = length-append w (0x20 ∷ words v vs)

-- words have a byte at least
pub some_text : (w v : List ℕ) (vs : List (List ℕ)) → words w (v ∷ vs) ≡ [] → ⊥
some_text w v vs e = omega (arith, ap length e, words_more_length w v vs)

-- every line fits
pub record_fits_lem : (n op : ℕ) (s : Sense) (next : Option Lba) → length (record_text n op s next) ≤ 80
record_fits_lem n op s next =
    let key = decimal s.key in
    let asc = hex s.asc in
    let ascq = hex s.ascq in
    let last = next_text next in
    omega (
      arith,
      words_more_length (decimal n) (hex op) (key ∷ asc ∷ ascq ∷ last ∷ []),
      words_more_length (hex op) key (asc ∷ ascq ∷ last ∷ []),
      words_more_length key asc (ascq ∷ last ∷ []),
      words_more_length asc ascq (last ∷ []),
      words_more_length ascq last [],
      words_last_length last,
      decimal-length n,
      decimal-length s.key,
      next_length next,
    )

pub stop_fits : (n : ℕ) (a b c : ℕ) → length (words (decimal n) ((a ∷ b ∷ c ∷ []) ∷ [])) ≤ 80
stop_fits n a b c =
    omega (arith, words_more_length (decimal n) (a ∷ b ∷ c ∷ []) [], words_last_length (a ∷ b ∷ c ∷ []), decimal-length n)
