-- Bytes that were written in pieces.
use Rattle.std.proofs.Common.{◌≤◌, ◌+◌, ◌≡◌, ℕ, List, ◌++◌, length, take, drop, sym, append_assoc, append-nil, subst, arith}
use Rattle.std.specs.Prelude.{◌<◌, IfSome, Option, Some, None}
use Rattle.std.proofs.lemmas.List.{take-append-drop, length-append, length-take}
use Rattle.std.proofs.Math.Seq.{take-append_seam}
use Rattle.ael_jobs.specs.declared.streams.reading.TheConstants.{LONGEST_INPUT}
use Rattle.ael_jobs.specs.Streams.Input.{IsPastLimit, IsReadToEnd}
use Rattle.ael_jobs.specs.Streams.Stream.{Gives, Grows, GrowsByPrefix, IsFront}

-- the front of the bytes was taken, and the rest was not
pub record Wrote (old new : Option (List ℕ)) (bytes rest : List ℕ) : Type 0 where
  pub front : List ℕ
  pub split : bytes ≡ front ++ rest
  pub grown : Grows old front new

pub Grows-append : (old mid new : Option (List ℕ)) (x y : List ℕ) → Grows old x mid → Grows mid y new → Grows old (x ++ y) new
Grows-append None mid new x y a b = rw (b, a)
Grows-append (Some held) mid new x y a b = rw (b, a, append_assoc)

pub wrote_more : (old mid new : Option (List ℕ)) (bytes rest : List ℕ) (n : ℕ) → Wrote old mid bytes rest → Grows mid (take n rest) new
    → Wrote old new bytes (drop n rest)
wrote_more old mid new bytes rest n w taken = record {
  front = w.front ++ take n rest;
  split = rw append_assoc (rw (take-append-drop n rest) w.split);
  grown = Grows-append old mid new w.front (take n rest) w.grown taken;
}

pub wrote_some : (old new : Option (List ℕ)) (bytes rest : List ℕ) → Wrote old new bytes rest → GrowsByPrefix old bytes new
wrote_some old new bytes rest w =
    let e : take (length w.front) bytes ≡ w.front = rw w.split (take-append_seam w.front rest) in
    let P : List ℕ → Type 0 = λ front. Grows old front new in
    (length w.front, simp (w.split, length-append) (omega arith), subst P (sym e) w.grown)

-- what a read gives comes next of the bytes that were to come
pub front_more : (old mid new : Option (List ℕ)) (bytes buf : List ℕ) (n : ℕ) → IsFront old bytes mid → Gives mid n buf new → IsFront old (bytes ++ take n buf) new
front_more old None new bytes buf n front gives = rw gives front
front_more old (Some left) new bytes buf n front gives = rw (gives.2, gives.1, append_assoc, take-append-drop n left) front

-- and is no more than was asked for
pub few_more : (bytes buf : List ℕ) (n room limit : ℕ) → n ≤ room → room + length bytes ≤ limit → length (bytes ++ take n buf) ≤ limit
few_more bytes buf n room limit within few = simp (length-append, length-take) (omega (arith, within, few))

-- where nothing is left, all of them came
pub all_came : (old new : Option (List ℕ)) (bytes : List ℕ) → IsFront old bytes new → IsReadToEnd new → IfSome old (λ all. bytes ≡ all)
all_came old None bytes front ended = rw front tt
all_came old (Some rest) bytes front ended = rw (front, ended) (sym (append-nil bytes))

-- where more came than an input may have, more were to come
pub past_limit : (old new : Option (List ℕ)) (bytes : List ℕ) → IsFront old bytes new → LONGEST_INPUT < length bytes → IsPastLimit old
past_limit old None bytes front long = rw front tt
past_limit old (Some rest) bytes front long = rw front (simp length-append (omega (arith, long)))
