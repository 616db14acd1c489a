-- Sections and their instructions, through a map.
use Rattle.std.proofs.Common.{◌≡◌, ℕ, zero, suc, ◌+◌, ◌<◌, ◌≤◌, length, get_or, arith, Bool, true, false, cond, List, [], ◌∷◌, map, drop, Option, Result, Ok, Err, IfOk, refl, sym, ap, ◌∙◌}
use Rattle.std.specs.List.{filter_map, cons_option, slice_split, onto_first}
use Rattle.std.specs.Global.{Vec}
use Rattle.std.specs.Vec.{vec_items}
use Rattle.std.proofs.lemmas.List.{drop-map, length-map, length-drop, get_or-map, map-id}
use Rattle.std.proofs.lemmas.Grind.{get_or_after_one}
use denote.Ref.{Bor}
use Rattle.program_text.specs.declared.text.line.Line.{Line as Read}
use Rattle.mutator_asm.specs.Line.{Line}
use Rattle.program_text.specs.Read.{line_view, lines_view}
use Rattle.mutator_asm.specs.Text.{begins_section, sections_in}

map_twice : {A B : Type 0} (f : List A → B) (xs : List (Bor (List A))) → map (λ x. f x.now) xs ≡ map f (map (λ x. x.now) xs)
map_twice f [] = refl
map_twice f (x ∷ xs) = ap (λ ys. f x.now ∷ ys) (map_twice f xs)

pub filter_map-map : {X Y Z : Type 0} (h : Y → Option Z) (f : X → Y) (xs : List X) → filter_map h (map f xs) ≡ filter_map (λ x. h (f x)) xs
filter_map-map h f [] = refl
filter_map-map h f (x ∷ xs) = ap (cons_option (h (f x))) (filter_map-map h f xs)

onto_first-map : {X Y : Type 0} (f : X → Y) (x : X) (parts : List (List X)) → onto_first (f x) (map (map f) parts) ≡ map (map f) (onto_first x parts)
onto_first-map f x [] = refl
onto_first-map f x (part ∷ parts) = refl

split_step : {X Y : Type 0} (f : X → Y) (b : Bool) (x : X) (parts : List (List X)) → cond b ([] ∷ map (map f) parts) (onto_first (f x) (map (map f) parts)) ≡ map (map f) (cond b ([] ∷ parts) (onto_first x parts))
split_step f true x parts = refl
split_step f false x parts = onto_first-map f x parts

slice_split-map : {X Y : Type 0} (p : Y → Bool) (f : X → Y) (xs : List X) → slice_split p (map f xs) ≡ map (map f) (slice_split (λ x. p (f x)) xs)
slice_split-map p f [] = refl
slice_split-map p f (x ∷ xs) = rw (slice_split-map p f xs) (split_step f (p (f x)) x (slice_split (λ x. p (f x)) xs))

-- the sections of the lines that were read, by what the lines say
pub sections_view : {E : Type 0} (r : Result (Vec (Bor (List Read))) E) (lines : List Read) → IfOk r (λ v. map (λ s. s.now) (vec_items v) ≡ drop 1 (slice_split (λ l. begins_section (line_view l)) lines)) → IfOk r (λ v. map (λ s. lines_view s.now) v.items ≡ sections_in (lines_view lines))
sections_view (Ok v) lines got =
    map_twice lines_view v.items ∙ ap (map lines_view) got ∙ sym (drop-map lines_view 1 (slice_split (λ l. begins_section (line_view l)) lines)) ∙ ap (drop 1) (sym (slice_split-map begins_section line_view lines))
sections_view (Err e) lines got = got

-- ---- how long a section is

onto_short : {A : Type 0} (x : A) (parts : List (List A)) (k n : ℕ) (d : List A) → k < length (onto_first x parts) → ((j : ℕ) → j < length parts → length (get_or parts j d) ≤ n) → length (get_or (onto_first x parts) k d) ≤ suc n
onto_short x [] zero n d lt h = omega arith
onto_short x [] (suc k) n d lt h = absurd (omega arith)
onto_short x (part ∷ parts) zero n d lt h = omega (arith, h 0 (omega arith))
onto_short x (part ∷ parts) (suc k) n d lt h = omega (arith, h (suc k) (omega arith))

short_step : {A : Type 0} (b : Bool) (x : A) (parts : List (List A)) (k n : ℕ) (d : List A) → k < length (cond b ([] ∷ parts) (onto_first x parts)) → ((j : ℕ) → j < length parts → length (get_or parts j d) ≤ n) → length (get_or (cond b ([] ∷ parts) (onto_first x parts)) k d) ≤ suc n
short_step true x parts zero n d lt h = omega arith
short_step true x parts (suc k) n d lt h = omega (arith, h k (omega arith))
short_step false x parts k n d lt h = onto_short x parts k n d lt h

pub part_short : {A : Type 0} (p : A → Bool) (xs : List A) (k : ℕ) (d : List A) → k < length (slice_split p xs) → length (get_or (slice_split p xs) k d) ≤ length xs
part_short p [] zero d lt = omega arith
part_short p [] (suc k) d lt = absurd (omega arith)
part_short p (x ∷ xs) k d lt = short_step (p x) x (slice_split p xs) k (length xs) d lt (λ j h. part_short p xs j d h)

-- no section is longer than the whole
pub section_short : (items : List (Bor (List Read))) (lines : List Read) (k : ℕ) (x : Bor (List Read)) → map (λ s. lines_view s.now) items ≡ sections_in (lines_view lines) → k < length items → x ≡ get_or items k x → length x.now ≤ length lines
section_short items lines k x e lt is =
    let parts = slice_split begins_section (lines_view lines) in
    let same : lines_view x.now ≡ get_or parts (1 + k) (lines_view x.now) = ap (λ (y : Bor (List Read)). lines_view y.now) is ∙ sym (get_or-map (λ s. lines_view s.now) items k x (lines_view x.now) lt) ∙ ap (λ (ss : List (List Line)). get_or ss k (lines_view x.now)) e ∙ get_or_after_one parts k (lines_view x.now) in
    let less : 1 + k < length parts = omega (arith, length-map items (λ s. lines_view s.now), ap length e, length-drop 1 parts) in
    let short = part_short begins_section (lines_view lines) (1 + k) (lines_view x.now) less in
    omega (arith, ap length same, short, length-map lines line_view, length-map x.now line_view)

pub sections_all : (yielded items : List (Bor (List Read))) (sections : List (List Line)) → map (λ s. s) yielded ≡ items → map (λ s. lines_view s.now) items ≡ sections → map (λ s. lines_view s.now) yielded ≡ sections
sections_all yielded items sections e f = rw (sym (map-id yielded) ∙ e) f
