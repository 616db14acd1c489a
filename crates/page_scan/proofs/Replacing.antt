-- The words below a cursor are replaced, and no others changed.
use Rattle.std.proofs.Common.{◌≡◌, ◌≢◌, ℕ, ◌+◌, ◌*◌, ◌<◌, ◌≤◌, List, length, slice_index, slice_set, refl, sym, ap, ◌∙◌, subst, arith, ⊎_elim}
use Rattle.std.proofs.lemmas.Bool.{cases_lt}
use Rattle.std.proofs.lemmas.List.{get_or-set_same, get_or-set_other}
use Rattle.std.proofs.Math.ListN.{length-set}
use Rattle.heap_words.specs.Decoded.{PointerWord}
use Rattle.heap_words.specs.Word.{pointer_word}
use Rattle.space_map.specs.Spaces.{Layout}
use Rattle.space_map.specs.Table.{Area, Cross, HeapWord, place_of}
use Rattle.page_scan.specs.Answering.{LeadsBack, ReplacesPointers, heap_in}

module _ (l : Layout) (epoch : ℕ) (answer : ℕ → ℕ) (words : List ℕ) (IsLooked : ℕ → Type 0) where
  -- of the words below the cursor, and of no others, the pointers into the old space are replaced
  pub record Replaced (cursor : ℕ) (now : List ℕ) : Type 0 where
    pub as_long : length now ≡ length words
    pub replaced : (x old : ℕ) → LeadsBack l epoch IsLooked words x old → x < cursor → heap_in l now x ≡ pointer_word (answer old)
    pub others : (place : ℕ) → ((x old : ℕ) → LeadsBack l epoch IsLooked words x old → x < cursor → place ≢ place_of l.pages (HeapWord x))
        → slice_index now place ≡ slice_index words place

  pub begun-Replaced : (cursor : ℕ) → ((x : ℕ) → IsLooked x → cursor ≤ x) → Replaced cursor words
  begun-Replaced cursor none = record {
    as_long = refl;
    replaced = λ x old back below. absurd (let from = none x back.looked in omega arith);
    others = λ place far. refl;
  }

  pub word_places : (x y : ℕ) → place_of l.pages (HeapWord x) ≡ place_of l.pages (HeapWord y) → x ≡ y
  unfolding place_of
  word_places x y same = omega arith

  -- what the scan has not come to is as it was
  pub unread : (cursor : ℕ) (now : List ℕ) → Replaced cursor now → (x : ℕ) → cursor ≤ x → heap_in l now x ≡ heap_in l words x
  unread cursor now r x from =
      r.others (place_of l.pages (HeapWord x)) (λ y old back below same. let e = word_places x y same in absurd (omega arith))

  area_apart : (space x : ℕ) → space < 2 → place_of l.pages (Area space) ≢ place_of l.pages (HeapWord x)
  unfolding place_of
  area_apart space x short same = omega arith

  cross_apart : (page x : ℕ) → page < 2 * l.pages → place_of l.pages (Cross page) ≢ place_of l.pages (HeapWord x)
  unfolding place_of
  cross_apart page x within same = omega arith

  pub area_stays : (cursor : ℕ) (now : List ℕ) → Replaced cursor now → (space : ℕ) → space < 2
      → slice_index now (place_of l.pages (Area space)) ≡ slice_index words (place_of l.pages (Area space))
  area_stays cursor now r space short = r.others (place_of l.pages (Area space)) (λ x old back below. area_apart space x short)

  pub cross_stays : (cursor : ℕ) (now : List ℕ) → Replaced cursor now → (page : ℕ) → page < 2 * l.pages
      → slice_index now (place_of l.pages (Cross page)) ≡ slice_index words (place_of l.pages (Cross page))
  cross_stays cursor now r page within = r.others (place_of l.pages (Cross page)) (λ x old back below. cross_apart page x within)

  -- the cursor passes words of which none leads back
  pub passed : (cursor next : ℕ) (now : List ℕ) → Replaced cursor now → cursor ≤ next
      → ((x old : ℕ) → LeadsBack l epoch IsLooked words x old → cursor ≤ x → x < next → ⊥) → Replaced next now
  passed cursor next now r on none = record {
    as_long = r.as_long;
    replaced = λ x old back below. ⊎_elim
        (λ (l : x < cursor). r.replaced x old back l)
        (λ (l : cursor ≤ x). absurd (none x old back l below))
        (cases_lt x cursor);
    others = λ place far. r.others place (λ x old back below. far x old back (omega arith));
  }

  same_old : (x a b : ℕ) → LeadsBack l epoch IsLooked words x a → LeadsBack l epoch IsLooked words x b → a ≡ b
  same_old x a b p q = let e : PointerWord a ≡ PointerWord b = sym p.leads ∙ q.leads in cc

  -- the word at the cursor is replaced
  pub stored : (cursor old : ℕ) (now : List ℕ) → Replaced cursor now → LeadsBack l epoch IsLooked words cursor old
      → place_of l.pages (HeapWord cursor) < length words
      → Replaced (cursor + 1) (slice_set now (place_of l.pages (HeapWord cursor)) (pointer_word (answer old)))
  stored cursor old now r here inside =
      let at : ℕ = place_of l.pages (HeapWord cursor) in
      record {
        as_long = length-set now at (pointer_word (answer old)) ∙ r.as_long;
        replaced = λ x other back below. ⊎_elim
            (λ (before : x < cursor).
            get_or-set_other now at (place_of l.pages (HeapWord x)) (pointer_word (answer old)) 0
            (λ same. let e = word_places x cursor same in absurd (omega arith)) ∙ r.replaced x other back before)
            (λ (behind : cursor ≤ x).
            let is : x ≡ cursor = omega arith in
            let P : ℕ → Type 0 = λ k. slice_index (slice_set now at (pointer_word (answer old))) (place_of l.pages (HeapWord k)) ≡ pointer_word (answer other) in
            subst P (sym is)
            (get_or-set_same now at (pointer_word (answer old)) 0 (subst (λ k. at < k) (sym r.as_long) inside)
            ∙ ap (λ k. pointer_word (answer k)) (same_old cursor old other here (subst (λ k. LeadsBack l epoch IsLooked words k other) is back))))
            (cases_lt x cursor);
        others = λ place far.
            get_or-set_other now at place (pointer_word (answer old)) 0 (far cursor old here (omega arith))
            ∙ r.others place (λ x other back below. far x other back (omega arith));
      }

  -- where the cursor is behind all words, each is replaced
  pub ended-Replaced : (cursor : ℕ) (now : List ℕ) → Replaced cursor now → ((x : ℕ) → IsLooked x → x < cursor)
      → ReplacesPointers l epoch IsLooked answer words now
  ended-Replaced cursor now r all = record {
    replaced = λ x old back. r.replaced x old back (all x back.looked);
    others = λ place far. r.others place (λ x old back below. far x old back);
  }
