-- On the worked pages records lie packed.
use Rattle.std.proofs.Common.{◌≡◌, ℕ, zero, suc, ◌+◌, ◌<◌, ◌≤◌, IsTrue, true, false, List, refl, subst, arith, lit≤, lit<}
use Rattle.heap_words.specs.declared.kind.Kind.TheVariants.{Mixed}
use Rattle.heap_words.specs.Decoded.{HeaderWord, decode}
use Rattle.heap_words.specs.FirstWords.{is_header}
use Rattle.heap_words.specs.Word.{tag_of}
use Rattle.space_map.specs.AreaWord.{decode_area, area_in}
use Rattle.space_map.specs.Table.{place_of}
use Rattle.space_map.specs.Worked.{four_pages}
use Rattle.page_scan.specs.Answering.{IsPacked, crossing_in, heap_in}
use Rattle.page_scan.specs.Fields.{record_begins}
use Rattle.page_scan.specs.Taken.{is_count}
use Rattle.page_scan.specs.Theorems.{WorkedArePacked}
use Rattle.page_scan.specs.Worked.{full_words_with, mixed_words_with, words_with}
use Rattle.page_scan.proofs.Packed.{begins-le}

-- where the record of this number begins on a page
abbrev at : List ℕ → (page : ℕ) → ℕ → ℕ
at words page n = record_begins (heap_in four_pages words) (crossing_in four_pages words page) n

abbrev HasHeader : List ℕ → (page : ℕ) → ℕ → Type 0
HasHeader words page n = IsTrue (is_header (decode (heap_in four_pages words (at words page n))))

-- where its header is that of a mixed record, the word behind that is its count
abbrev HasCount : List ℕ → (page : ℕ) → ℕ → Type 0
HasCount words page n = (len serial mutator : ℕ) → decode (heap_in four_pages words (at words page n)) ≡ HeaderWord Mixed len serial mutator
    → IsTrue (is_count (len + 1) (decode (heap_in four_pages words (at words page n + 1))))

-- behind the last record none begins below FRONT
none_behind : (words : List ℕ) (page last n front : ℕ) → at words page last ≡ front → last ≤ n → at words page n < front → ⊥
none_behind words page last n front is behind below =
    let least = begins-le (heap_in four_pages words) (crossing_in four_pages words page) front last n behind in omega arith

-- ---- the filling page

behind_first : at (words_with 0x301) 4 1 ≡ 259
unfolding record_begins decode tag_of place_of words_with
behind_first = refl

filling_headers : (n : ℕ) → at (words_with 0x301) 4 n < 259 → HasHeader (words_with 0x301) 4 n
unfolding record_begins decode tag_of place_of words_with
filling_headers zero below = refl
filling_headers (suc n) below = absurd (none_behind (words_with 0x301) 4 1 (suc n) 259 behind_first (omega arith) below)

filling_counts : (n : ℕ) → at (words_with 0x301) 4 n < 259 → HasCount (words_with 0x301) 4 n
unfolding record_begins decode tag_of place_of words_with
filling_counts zero below = λ len serial mutator is. absurd (cc)
filling_counts (suc n) below = absurd (none_behind (words_with 0x301) 4 1 (suc n) 259 behind_first (omega arith) below)

filling_packed : (n : ℕ) → at (words_with 0x301) 4 n < 259 → at (words_with 0x301) 4 (n + 1) ≤ 259
filling_packed zero below = let is = behind_first in omega arith
filling_packed (suc n) below = absurd (none_behind (words_with 0x301) 4 1 (suc n) 259 behind_first (omega arith) below)

filling_page : IsPacked four_pages 4 1 true (words_with 0x301) 259
unfolding decode_area area_in place_of words_with
filling_page = record {
  whole = lit≤ tt;
  in_space = lit< tt;
  area = record { front = 3; low = 256; owed = 61 };
  says = refl;
  front_is = refl;
  inside = lit≤ tt;
  over = lit≤ tt;
  reaches = let is = behind_first in omega arith;
  below = lit< tt;
  headers = filling_headers;
  counts = λ n len serial mutator below is. filling_counts n below len serial mutator is;
  packed = filling_packed;
  full = λ is. absurd (cc);
}

-- ---- the full page

behind_second : at (full_words_with 0x301) 5 2 ≡ 422
unfolding record_begins decode tag_of place_of full_words_with
behind_second = refl

second : at (full_words_with 0x301) 5 1 ≡ 321
unfolding record_begins decode tag_of place_of full_words_with
second = refl

full_headers : (n : ℕ) → at (full_words_with 0x301) 5 n < 422 → HasHeader (full_words_with 0x301) 5 n
unfolding record_begins decode tag_of place_of full_words_with
full_headers zero below = refl
full_headers (suc zero) below = refl
full_headers (suc (suc n)) below = absurd (none_behind (full_words_with 0x301) 5 2 (suc (suc n)) 422 behind_second (omega arith) below)

full_counts : (n : ℕ) → at (full_words_with 0x301) 5 n < 422 → HasCount (full_words_with 0x301) 5 n
unfolding record_begins decode tag_of place_of full_words_with
full_counts zero below = λ len serial mutator is. absurd (cc)
full_counts (suc zero) below = λ len serial mutator is. absurd (cc)
full_counts (suc (suc n)) below = absurd (none_behind (full_words_with 0x301) 5 2 (suc (suc n)) 422 behind_second (omega arith) below)

full_packed : (n : ℕ) → at (full_words_with 0x301) 5 n < 422 → at (full_words_with 0x301) 5 (n + 1) ≤ 422
full_packed zero below = let is = second in omega arith
full_packed (suc zero) below = let is = behind_second in omega arith
full_packed (suc (suc n)) below = absurd (none_behind (full_words_with 0x301) 5 2 (suc (suc n)) 422 behind_second (omega arith) below)

full_page : IsPacked four_pages 5 1 false (full_words_with 0x301) 422
unfolding decode_area area_in place_of full_words_with
full_page = record {
  whole = lit≤ tt;
  in_space = lit< tt;
  area = record { front = 166; low = 256; owed = 0 };
  says = refl;
  front_is = refl;
  inside = lit≤ tt;
  over = lit≤ tt;
  reaches = let is = second in omega arith;
  below = lit< tt;
  headers = full_headers;
  counts = λ n len serial mutator below is. full_counts n below len serial mutator is;
  packed = full_packed;
  full = λ is. lit≤ tt;
}

-- ---- the page with a mixed record

mixed_behind : at (mixed_words_with 0x301) 4 2 ≡ 320
unfolding record_begins decode tag_of place_of mixed_words_with
mixed_behind = refl

mixed_second : at (mixed_words_with 0x301) 4 1 ≡ 260
unfolding record_begins decode tag_of place_of mixed_words_with
mixed_second = refl

mixed_headers : (n : ℕ) → at (mixed_words_with 0x301) 4 n < 320 → HasHeader (mixed_words_with 0x301) 4 n
unfolding record_begins decode tag_of place_of mixed_words_with
mixed_headers zero below = refl
mixed_headers (suc zero) below = refl
mixed_headers (suc (suc n)) below = absurd (none_behind (mixed_words_with 0x301) 4 2 (suc (suc n)) 320 mixed_behind (omega arith) below)

mixed_counts : (n : ℕ) → at (mixed_words_with 0x301) 4 n < 320 → HasCount (mixed_words_with 0x301) 4 n
unfolding record_begins decode tag_of place_of mixed_words_with
mixed_counts zero below = λ len serial mutator is. let long : 3 ≡ len = cc in subst (λ z. IsTrue (is_count (z + 1) (decode 4))) long refl
mixed_counts (suc zero) below = λ len serial mutator is. absurd (cc)
mixed_counts (suc (suc n)) below = absurd (none_behind (mixed_words_with 0x301) 4 2 (suc (suc n)) 320 mixed_behind (omega arith) below)

mixed_packed : (n : ℕ) → at (mixed_words_with 0x301) 4 n < 320 → at (mixed_words_with 0x301) 4 (n + 1) ≤ 320
mixed_packed zero below = let is = mixed_second in omega arith
mixed_packed (suc zero) below = let is = mixed_behind in omega arith
mixed_packed (suc (suc n)) below = absurd (none_behind (mixed_words_with 0x301) 4 2 (suc (suc n)) 320 mixed_behind (omega arith) below)

mixed_page : IsPacked four_pages 4 1 false (mixed_words_with 0x301) 320
unfolding decode_area area_in place_of mixed_words_with
mixed_page = record {
  whole = lit≤ tt;
  in_space = lit< tt;
  area = record { front = 64; low = 256; owed = 0 };
  says = refl;
  front_is = refl;
  inside = lit≤ tt;
  over = lit≤ tt;
  reaches = let is = mixed_second in omega arith;
  below = lit< tt;
  headers = mixed_headers;
  counts = λ n len serial mutator below is. mixed_counts n below len serial mutator is;
  packed = mixed_packed;
  full = λ is. lit≤ tt;
}

pub worked_are_packed : WorkedArePacked
worked_are_packed = record { filling_page = filling_page; full_page = full_page; mixed_page = mixed_page }
