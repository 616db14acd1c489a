-- Where the labels of a section stand, line by line.
use Rattle.std.proofs.Common.{◌≡◌, ℕ, ◌+◌, ◌<◌, ◌≤◌, Bool, true, false, cond, ◌||◌, ltb, List, [], ◌∷◌, length, get_or, take, drop, Option, Some, None, refl, sym, ap, subst, ◌∙◌, drop-cons, add-one, arith}
use Rattle.std.specs.Prelude.{count_by}
use Rattle.std.specs.HashMap.{HashMap}
use Rattle.std.specs.List.{before_first}
use Rattle.std.specs.Option.{is_some, option_or}
use Rattle.std.specs.Str.{bytes_eq}
use Rattle.std.proofs.Math.ListN.{drop_of_length-le}
use Rattle.std.proofs.lemmas.Slice.Eq.{bytes_eq-Decides}
use denote.Ref.{Bor}
use Rattle.program_text.specs.declared.text.labels.Place.{Place}
use Rattle.program_text.specs.declared.text.line.Line.{Line as Read}
use Rattle.program_text.specs.Labels.{label_place, get_place}
use Rattle.mutator_asm.specs.Line.{Line}
use Rattle.program_text.specs.Read.{label_view, line_view, lines_view}
use Rattle.mutator_asm.specs.Text.{counts, defines, is_label, has_label}
use Rattle.mutator_asm.proofs.Lists.Firsts.{before_cons, first_within, none_within}
use Rattle.program_text.proofs.Tokens.Options.{option_or-None}
use Rattle.mutator_asm.proofs.Lists.Tests.{count_by-cons}

-- ---- the places, where n lines and k instructions stand before these lines

abbrev pub place_from : ℕ → ℕ → List Line → List ℕ → Option Place
place_from n k [] name = None
place_from n k (l ∷ ls) name = cond (defines name l) (Some (record { lines = n; instrs = k })) (place_from (n + 1) (k + cond (counts l) 1 0) ls name)

abbrev place_at : ℕ → ℕ → Option Place
place_at lines instrs = Some (record { lines = lines; instrs = instrs })

same_place : (a b c d : ℕ) → a ≡ c → b ≡ d → place_at a b ≡ place_at c d
same_place a b c d e f = rw (e, f) refl

-- a place behind these lines, which themselves stand behind n lines and k instructions
shifted : ℕ → ℕ → List Line → Option Place
shifted n k before = Some (record { lines = n + length before; instrs = k + count_by counts before })

from_step : (b any : Bool) (n k : ℕ) (l : Line) (before whole : List Line) (later : Option Place) → whole ≡ cond b [] (l ∷ before) → later ≡ cond any (shifted (n + 1) (k + cond (counts l) 1 0) before) None → cond b (Some (record { lines = n; instrs = k })) later ≡ cond (b || any) (shifted n k whole) None
unfolding shifted
from_step true any n k l before whole later e f = rw e (same_place n k (n + 0) (k + 0) (omega arith) (omega arith))
from_step false true n k l before whole later e f =
    rw (e, f) (same_place (n + 1 + length before) (k + cond (counts l) 1 0 + count_by counts before) (n + length (l ∷ before)) (k + count_by counts (l ∷ before)) (omega arith) (omega (arith, count_by-cons counts l before)))
from_step false false n k l before whole later e f = f

from_is : (n k : ℕ) (ls : List Line) (name : List ℕ) → place_from n k ls name ≡ cond (has_label ls name) (shifted n k (before_first (defines name) ls)) None
from_is n k [] name = refl
from_is n k (l ∷ ls) name = from_step (defines name l) (has_label ls name) n k l (before_first (defines name) ls) _ _ (before_cons (defines name) l ls) (from_is (n + 1) (k + cond (counts l) 1 0) ls name)

pub place_is : (ls : List Line) (name : List ℕ) → place_from 0 0 ls name ≡ label_place ls name
unfolding shifted
place_is ls name =
    let before = before_first (defines name) ls in
    from_is 0 0 ls name ∙ ap (λ o. cond (has_label ls name) o None) (same_place (0 + length before) (0 + count_by counts before) (length before) (count_by counts before) (omega arith) (omega arith))

-- ---- one more line

-- the line at i, before those after it
views_at : (ls : List Read) (i : ℕ) (l : Read) → i < length ls → l ≡ get_or ls i l → lines_view (drop i ls) ≡ line_view l ∷ lines_view (drop (i + 1) ls)
views_at ls i l lt is = rw (add-one, is) (ap lines_view (drop-cons ls i l lt))

join : (f : Option Place) (b : Bool) (x : Place) (y : Option Place) → option_or (option_or f (cond b (Some x) None)) y ≡ option_or f (cond b (Some x) y)
join (Some v) b x y = refl
join None true x y = refl
join None false x y = refl

pub place_step : (old new : Option Place) (ls : List Read) (i k w : ℕ) (l : Read) (name : List ℕ) (total : Option Place) → i < length ls → l ≡ get_or ls i l → w ≡ cond (counts (line_view l)) 1 0
    → new ≡ option_or old (cond (defines name (line_view l)) (Some (record { lines = i; instrs = k })) None)
    → option_or old (place_from i k (lines_view (drop i ls)) name) ≡ total
    → option_or new (place_from (i + 1) (k + w) (lines_view (drop (i + 1) ls)) name) ≡ total
place_step old new ls i k w l name total lt is w-is new-is so_far =
    rw (new-is, w-is) (join old (defines name (line_view l)) _ _ ∙ ap (λ (xs : List Line). option_or old (place_from i k xs name)) (sym (views_at ls i l lt is)) ∙ so_far)

pub weight-le : (b : Bool) (w : ℕ) → w ≡ cond b 1 0 → w ≤ 1
weight-le true w e = omega arith
weight-le false w e = omega arith

pub place_end : (o : Option Place) (ls : List Read) (i k : ℕ) (name : List ℕ) → length ls ≤ i → option_or o (place_from i k (lines_view (drop i ls)) name) ≡ place_from 0 0 (lines_view ls) name → o ≡ label_place (lines_view ls) name
place_end o ls i k name le so_far =
    let over : option_or o (place_from i k (lines_view (drop i ls)) name) ≡ o = rw (drop_of_length-le ls le) (option_or-None o) in
    sym over ∙ so_far ∙ place_is (lines_view ls) name

-- ---- a label that is kept

abbrev Labels : Type 0 → Type 0
Labels S = HashMap (Bor (List ℕ)) Place S

by_test : (b : Bool) (o : Option Place) (p : Place) → (b ≡ true → o ≡ None) → cond b (Some p) o ≡ option_or o (cond b (Some p) None)
by_test true o p h = rw (h refl) refl
by_test false None p h = refl
by_test false (Some x) p h = refl

by_first : (b : Bool) (o : Option Place) (p : Place) → (b ≡ true → is_some o ≡ true) → o ≡ option_or o (cond b (Some p) None)
by_first b (Some x) p h = refl
by_first false None p h = refl
by_first true None p h = let no : false ≡ true = h refl in absurd cc

none_if : (o : Option Place) → is_some o ≡ false → o ≡ None
none_if None h = refl
none_if (Some x) h = absurd cc

at_name : {S : Type 0} (labels : Labels S) (label name : List ℕ) (o : Option Place) → get_place labels label ≡ o → bytes_eq label name ≡ true → get_place labels name ≡ o
at_name labels label name o h e = subst (λ (q : List ℕ). get_place labels q ≡ o) ((bytes_eq-Decides label name).0 e) h

defines_is : (l : Read) (label : Bor (List ℕ)) (name : List ℕ) → l.label ≡ Some label → defines name (line_view l) ≡ bytes_eq label.now name
defines_is l label name h = ap (λ (o : Option (Bor (List ℕ))). is_label name (label_view o)) h

-- a label that was not there
pub kept_new : {S : Type 0} (old new : Labels S) (l : Read) (label : Bor (List ℕ)) (p : Place) → l.label ≡ Some label → is_some (get_place old label.now) ≡ false
    → ((q : List ℕ) → get_place new q ≡ cond (bytes_eq label.now q) (Some p) (get_place old q))
    → (name : List ℕ) → get_place new name ≡ option_or (get_place old name) (cond (defines name (line_view l)) (Some p) None)
kept_new old new l label p h away up name =
    rw (defines_is l label name h) (up name ∙ by_test (bytes_eq label.now name) (get_place old name) p (at_name old label.now name None (none_if (get_place old label.now) away)))

-- a label that was there has its first place still
pub kept_first : {S : Type 0} (labels : Labels S) (l : Read) (label : Bor (List ℕ)) (p : Place) → l.label ≡ Some label → is_some (get_place labels label.now) ≡ true
    → (name : List ℕ) → get_place labels name ≡ option_or (get_place labels name) (cond (defines name (line_view l)) (Some p) None)
kept_first labels l label p h there name =
    rw (defines_is l label name h) (by_first (bytes_eq label.now name) (get_place labels name) p (λ e. subst (λ (q : List ℕ). is_some (get_place labels q) ≡ true) ((bytes_eq-Decides label.now name).0 e) there))

-- ---- a label among the first lines

abbrev is_before : ℕ → Option Place → Bool
is_before n None = false
is_before n (Some place) = ltb place.lines n

within_if : (any : Bool) (ls : List Line) (n : ℕ) (name : List ℕ) → has_label ls name ≡ any → is_before n (cond any (place_at (length (before_first (defines name) ls)) (count_by counts (before_first (defines name) ls))) None) ≡ has_label (take n ls) name
within_if true ls n name h = first_within (defines name) ls n h
within_if false ls n name h = sym (none_within (defines name) ls n h)

within : (ls : List Line) (n : ℕ) (name : List ℕ) → is_before n (label_place ls name) ≡ has_label (take n ls) name
within ls n name = within_if (has_label ls name) ls n name refl

pub within_some : {S : Type 0} (labels : Labels S) (ls : List Line) (n : ℕ) (name : List ℕ) (place : Place) → get_place labels name ≡ label_place ls name → get_place labels name ≡ Some place → ltb place.lines n ≡ has_label (take n ls) name
within_some labels ls n name place knows found = ap (is_before n) (sym found ∙ knows) ∙ within ls n name

pub within_none : {S : Type 0} (labels : Labels S) (ls : List Line) (n : ℕ) (name : List ℕ) → get_place labels name ≡ label_place ls name → get_place labels name ≡ None → false ≡ has_label (take n ls) name
within_none labels ls n name knows found = ap (is_before n) (sym found ∙ knows) ∙ within ls n name
