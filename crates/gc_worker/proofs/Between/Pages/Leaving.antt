-- What a step may leave of page words and of LOW, by the row that it writes.
use Rattle.std.proofs.Common.{◌≡◌, ◌≢◌, ℕ, ◌+◌, ◌*◌, ◌<◌, ◌≤◌, ◌==◌, Bool, true, false, cond, List, set, slice_index, Option, Some, None, refl, sym, ap, subst, ◌∙◌, arith, ⊎_elim}
use Rattle.std.specs.Prelude.{option_map, unwrap_or}
use Rattle.std.proofs.lemmas.Bool.{cases_eq, eqb-true}
use Rattle.std.proofs.lemmas.Option.{same_Some}
use Rattle.plain_state.specs.State.{Plain}
use Rattle.atom_store.specs.declared.reply.Reply.{Reply}
use Rattle.atom_store.specs.declared.reply.Reply.TheVariants as replies
use Rattle.atom_store.specs.declared.step.Step.{Step}
use Rattle.atom_store.specs.declared.step.Step.TheVariants.{Store, Exchange}
use Rattle.atom_store.specs.Step.{place_in, words_after, reply_of}
use Rattle.atom_store.specs.StepOn.{StepOn, WritesOnly, step_at}
use Rattle.atom_store.specs.StepOn as on
use Rattle.space_map.specs.declared.area_word.AreaWord.{AreaWord}
use Rattle.space_map.specs.declared.page_word.PageWord.{PageWord}
use Rattle.space_map.specs.declared.page_word.PageWord.TheVariants.{Unset}
use Rattle.space_map.specs.AreaWord.{AreaFits, decode_area, encode_area}
use Rattle.space_map.specs.PageWord.{PageFits, age_of, encode_page}
use Rattle.space_map.specs.Spaces.{first_word, to_space}
use Rattle.space_map.specs.Table.{Row, Area, Page, place_of}
use Rattle.space_map.specs.WholeTable.{WholeRow, Within, whole_place_of}
use Rattle.space_map.proofs.AreaWords.{decode_area-encode_area}
use Rattle.space_map.proofs.PageWords.{decode_page-encode_page}
use Rattle.space_map.proofs.Rows.{place_of-apart}
use Rattle.heap_state.specs.Configuration.{Configuration, Stands, table, era, memory}
use Rattle.heap_state.specs.Memory.Table.{page_word_in, word_in}
use Rattle.heap_state.proofs.Table.StoredRows.{word_in-row, word_in-same, word_in-other}
use Rattle.gc_worker.specs.Laws.Step.{age}
use Rattle.gc_worker.specs.Steps.Turned.{PageWon}
use Rattle.gc_worker.proofs.Words.Areas.{area_says, area_is, is_space}
use Rattle.gc_worker.proofs.Between.Pages.Written.{Elsewhere, IsOther, other_area_stays, other_page_stays, row_stays}

-- ---- what a step leaves

-- A page's word is as old as it was; or the page is of new records, and is opened in this epoch; or the step won the page.
pub data ByClaim (c : Configuration) (later : List ℕ) (w : Option PageWon) (page : ℕ) : Type 0 where
  Same : age c.pages later page ≡ age c.pages c.words page → ByClaim c later w page
  New : age c.pages later page ≡ (era c).epoch + 1 → (memory c).low ≤ first_word page → first_word page < (era c).board → ByClaim c later w page
  Wins : (epoch : ℕ) → w ≡ Some (record { page = page; epoch = epoch }) → age c.pages later page ≡ epoch + 1 → ByClaim c later w page

abbrev pub space_now : Configuration → ℕ
space_now c = to_space (era c).epoch

-- LOW of the epoch's space is not above what it was
abbrev pub NoHigher : Configuration → List ℕ → Type 0
NoHigher c later = (a : AreaWord) → decode_area (word_in c.pages later (Area (space_now c))) ≡ Some a → a.low ≤ ((table c).area (space_now c)).low

pub record LeavesPages (c : Configuration) (later : List ℕ) (w : Option PageWon) : Type 0 where
  pub page : (page : ℕ) → page ≤ 2 * c.pages → ByClaim c later w page
  pub low : NoHigher c later

-- so does the step, if there is one, with the page that it wins by its reply
abbrev pub LeavesBy : Configuration → Option Step → (Reply → Option PageWon) → Type 0
LeavesBy c o w = (q : Step) → o ≡ Some q → LeavesPages c (words_after q c.words) (w (reply_of q c.words))

module _ (c : Configuration) (p : Plain) (s : Stands c p) where
  same_age : (later : List ℕ) (page : ℕ) → word_in c.pages later (Page page) ≡ word_in c.pages c.words (Page page) → age c.pages later page ≡ age c.pages c.words page
  same_age later page same = ap (λ (n : ℕ). age_of (page_word_in n)) same

  same_low : (later : List ℕ) → word_in c.pages later (Area (space_now c)) ≡ word_in c.pages c.words (Area (space_now c)) → NoHigher c later
  same_low later same a is =
      let e : (table c).area (space_now c) ≡ a =
      same_Some ((table c).area (space_now c)) a (sym (area_says c p s (space_now c) (is_space (era c).epoch)) ∙ (ap decode_area (sym same) ∙ is)) in
      let low = ap (λ (b : AreaWord). b.low) e in
      omega (arith, low)

  -- so does this one
  pub this : (step : Step) (w : Reply → Option PageWon) → LeavesPages c (words_after step c.words) (w (reply_of step c.words)) → LeavesBy c (Some step) w
  this step w leaves q asked = subst (λ (z : Step). LeavesPages c (words_after z c.words) (w (reply_of z c.words))) (same_Some step q asked) leaves

  pub nothing_left : (w : Option PageWon) → LeavesPages c c.words w
  nothing_left w = record { page = λ page within. Same refl; low = same_low c.words refl }

  -- most steps leave all as it was, also those on rows behind the table
  pub spares_whole : (n : ℕ) → n ≡ c.pages → (o : Option (StepOn WholeRow)) (w : Reply → Option PageWon) → WritesOnly (Elsewhere IsOther) o → LeavesBy c (option_map (step_at (whole_place_of n)) o) w
  spares_whole n same None w writes = λ q asked. absurd (cc)
  spares_whole n same (Some step) w writes =
      let later : List ℕ = words_after (step_at (whole_place_of c.pages) step) c.words in
      subst (λ (m : ℕ). LeavesBy c (Some (step_at (whole_place_of m) step)) w) (sym same)
      (this (step_at (whole_place_of c.pages) step) w (record {
        page = λ page within. Same (same_age later page (other_page_stays c.pages c.words step writes page));
        low = same_low later (other_area_stays c.pages c.words step writes (space_now c));
      }))

  pub spares : (n : ℕ) → n ≡ c.pages → (o : Option (StepOn Row)) (w : Reply → Option PageWon) → WritesOnly IsOther o → LeavesBy c (option_map (step_at (place_of n)) o) w
  spares n same None w writes = spares_whole n same None w writes
  spares n same (Some (on.Load row)) w writes = spares_whole n same (Some (on.Load (Within row))) w writes
  spares n same (Some (on.Store row word)) w writes = spares_whole n same (Some (on.Store (Within row) word)) w writes
  spares n same (Some (on.Exchange row old new)) w writes = spares_whole n same (Some (on.Exchange (Within row) old new)) w writes

  -- ---- an area is written

  page_beside : (step : Step) (space : ℕ) → space < 2 → place_in step ≡ place_of c.pages (Area space) → (page : ℕ)
      → age c.pages (words_after step c.words) page ≡ age c.pages c.words page
  page_beside step space small at page =
      same_age (words_after step c.words) page
      (row_stays c.pages c.words step (Page page) (λ is same. place_of-apart c.pages (Page page) (Area space) is small (λ e. cc) (same ∙ at)))

  -- the other space's
  pub stores_other : (space : ℕ) (value : ℕ) (w : Reply → Option PageWon) → space < 2 → space_now c ≢ space → LeavesBy c (Some (Store (place_of c.pages (Area space)) value)) w
  stores_other space value w small other =
      let step : Step = Store (place_of c.pages (Area space)) value in
      this step w (record {
        page = λ page within. Same (page_beside step space small refl page);
        low = same_low (words_after step c.words)
            (row_stays c.pages c.words step (Area (space_now c)) (λ is same. place_of-apart c.pages (Area (space_now c)) (Area space) is small (λ e. other (cc)) same));
      })

  module _ (old new : AreaWord) (old_fits : AreaFits old) (new_fits : AreaFits new) (falls : new.low ≤ old.low) (space : ℕ) (small : space < 2) where
    abbrev at : ℕ
    at = place_of c.pages (Area space)

    abbrev step : Step
    step = Exchange (place_of c.pages (Area space)) (encode_area old) (encode_area new)

    low_by : (b : Bool) → (slice_index c.words (place_of c.pages (Area space)) == encode_area old) ≡ b → space_now c ≡ space → NoHigher c (cond b (set c.words (place_of c.pages (Area space)) (encode_area new)) c.words)
    low_by false test here a is = same_low c.words refl a is
    low_by true test here a is =
        let later = set c.words (place_of c.pages (Area space)) (encode_area new) in
        let word : word_in c.pages later (Area space) ≡ encode_area new = word_in-same c.pages c.words (Area space) (encode_area new) small s.formed.whole in
        let now : decode_area (word_in c.pages later (Area space)) ≡ Some a = ap (λ (n : ℕ). decode_area (word_in c.pages later (Area n))) (sym here) ∙ is in
        let a_is : new ≡ a = same_Some new a (sym (decode_area-encode_area new new_fits) ∙ (ap decode_area (sym word) ∙ now)) in
        let before : (table c).area space ≡ old = area_is c space old old_fits (word_in-row c.pages c.words (Area space) small ∙ eqb-true (slice_index c.words (place_of c.pages (Area space))) (encode_area old) test) in
        let new_low = ap (λ (b : AreaWord). b.low) a_is in
        let old_low = ap (λ (b : AreaWord). b.low) before in
        let same = ap (λ (n : ℕ). ((table c).area n).low) here in
        omega (arith, new_low, old_low, same, falls)

    low : NoHigher c (words_after step c.words)
    low = ⊎_elim
        (λ (here : space_now c ≡ space). low_by (slice_index c.words (place_of c.pages (Area space)) == encode_area old) refl here)
        (λ (other : space_now c ≢ space). same_low (words_after step c.words)
        (row_stays c.pages c.words step (Area (space_now c)) (λ is same. place_of-apart c.pages (Area (space_now c)) (Area space) is small (λ e. other (cc)) same)))
        (cases_eq (space_now c) space)

    pub exchanges_area : (n : ℕ) → n ≡ c.pages → (w : Reply → Option PageWon) → LeavesBy c (Some (Exchange (place_of n (Area space)) (encode_area old) (encode_area new))) w
    exchanges_area n same w =
        subst (λ (m : ℕ). LeavesBy c (Some (Exchange (place_of m (Area space)) (encode_area old) (encode_area new))) w) (sym same)
        (this step w (record { page = λ page within. Same (page_beside step space small refl page); low = low }))

  -- ---- a page's word is written

  module _ (page : ℕ) (within : page ≤ 2 * c.pages) (word : PageWord) (fits : PageFits word) where
    abbrev pub written : List ℕ
    written = set c.words (place_of c.pages (Page page)) (encode_page word)

    pub age_now : age c.pages written page ≡ age_of word
    age_now =
        ap (λ (n : ℕ). age_of (page_word_in n)) (word_in-same c.pages c.words (Page page) (encode_page word) within s.formed.whole)
        ∙ ap (λ (o : Option PageWord). age_of (unwrap_or o Unset)) (decode_page-encode_page word fits)

    pub writes_page : (w : Option PageWon) → ByClaim c written w page → LeavesPages c written w
    writes_page w own = record {
      page = λ other is. ⊎_elim
          (λ (e : other ≡ page). subst (ByClaim c written w) (sym e) own)
          (λ (d : other ≢ page). Same (same_age written other (word_in-other c.pages c.words (Page page) (encode_page word) within (Page other) (λ e. d (cc)))))
          (cases_eq other page);
      low = same_low written (word_in-other c.pages c.words (Page page) (encode_page word) within (Area (space_now c)) (λ e. cc));
    }

    pub stores_page : (n : ℕ) → n ≡ c.pages → (w : Reply → Option PageWon) → ByClaim c written (w replies.Done) page → LeavesBy c (Some (Store (place_of n (Page page)) (encode_page word))) w
    stores_page n same w own =
        subst (λ (m : ℕ). LeavesBy c (Some (Store (place_of m (Page page)) (encode_page word))) w) (sym same)
        (this (Store (place_of c.pages (Page page)) (encode_page word)) w (writes_page (w replies.Done) own))
