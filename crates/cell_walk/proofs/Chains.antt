-- The walk over a chain that nobody disturbs.
use Rattle.std.proofs.Common.{◌≡◌, ◌≢◌, ℕ, zero, suc, ◌+◌, ◌-◌, ◌*◌, ◌<◌, ◌≤◌, Bool, true, false, nat_lt, List, [], ◌∷◌, length, map, slice_set, refl, sym, ap, ◌∙◌, subst, arith, ⊎_elim, if◌then◌else◌, ◌==◌}
use Rattle.std.specs.Prelude.{All, AllPairs}
use Rattle.std.proofs.lemmas.Bool.Decides.{nat_tests}
use Rattle.std.proofs.lemmas.List.{get_or-set_other, set-get_or}
use Rattle.atom_store.specs.Runs.{Working, alone, with_words}
use Rattle.atom_store.specs.declared.reply.Reply.TheVariants.{Won, Lost}
use Rattle.heap_words.specs.Decoded.{Decoded, PointerWord, decode}
use Rattle.space_map.specs.Spaces.{Layout}
use Rattle.space_map.specs.Table.{WeakHead, WeakTurn, HeapWord, place_of}
use Rattle.space_map.specs.TableWords.{row_word}
use Rattle.cell_walk.specs.declared.linked_cell.LinkedCell.{LinkedCell}
use Rattle.cell_walk.specs.declared.walk_end.WalkEnd.TheVariants.{Passed, Another}
use Rattle.cell_walk.specs.declared.walk_stage.WalkStage.{WalkStage}
use Rattle.cell_walk.specs.declared.walk_stage.WalkStage.TheVariants.{TakesTurn, LoadsWeak, LoadsTarget, LoadsTargetHeader, StoresTarget, LoadsLink, Ended}
use Rattle.cell_walk.specs.Chains.{AreApart, IsChain, IsNotOf, LeadsAlong, LeadsBack, LieBesideOld, entry_passed, heap_in, target_passed, target_place, target_said, words_passed}
use Rattle.cell_walk.specs.Taken.{along, by_target, is_old, replacement, stage_after, walk_machine}
use Rattle.cell_walk.specs.Theorems.{ChainsAreWalked}
use Rattle.cell_walk.specs.Walking.{Walking, begun, most_cells}
use Rattle.cell_walk.proofs.Along.{along-next}
use Rattle.cell_walk.proofs.Runs.{Runs, at_last, in_more, no_step_runs, one_step_runs, then_runs}

-- ---- places

pub word_places : (n x y : ℕ) → place_of n (HeapWord x) ≡ place_of n (HeapWord y) → x ≡ y
unfolding place_of
word_places n x y same = omega arith

pub turn_apart : (n x : ℕ) → place_of n (HeapWord x) ≢ place_of n WeakTurn
unfolding place_of
turn_apart n x same = omega arith

head_apart : (n : ℕ) → place_of n WeakHead ≢ place_of n WeakTurn
unfolding place_of
head_apart n same = absurd (cc)

module _ (l : Layout) (epoch : ℕ) (words : List ℕ) where
  -- the walk at this stage, and the words then
  abbrev walk_at : WalkStage → List ℕ → Working Walking
  walk_at x now = record { machine = record { layout = l; epoch = epoch; stage = x }; words = now }

  -- one that has done nothing yet
  abbrev at_first : Working Walking
  at_first = record { machine = begun l epoch; words = words }

  -- from the one to the other in at most so many steps
  abbrev Goes : Working Walking → Working Walking → ℕ → Type 0
  Goes from to most = Runs walk_machine from to most

  -- the words with the cell's target as it is to be
  abbrev with_target : List ℕ → ℕ → List ℕ
  with_target now cell = slice_set now (target_place l cell) (target_passed l epoch words cell)

  -- what the walk is to read of a cell is as it was
  pub record IsUnread (now : List ℕ) (cell : ℕ) : Type 0 where
    pub target : heap_in l now (cell + 1) ≡ heap_in l words (cell + 1)
    pub link : heap_in l now (cell + 2) ≡ heap_in l words (cell + 2)
    pub old : (address : ℕ) → LeadsBack l epoch words cell address → heap_in l now address ≡ heap_in l words address

  -- a target stays that doesn't lead into the old space
  stays : (cell : LinkedCell) (now : List ℕ) → heap_in l now (cell.at + 1) ≡ heap_in l words (cell.at + 1)
      → Goes (walk_at (LoadsLink cell) now) (walk_at (LoadsLink cell) (slice_set now (target_place l cell.at) (heap_in l words (cell.at + 1)))) 2
  stays cell now same =
      no_step_runs walk_machine _ _ 2
      (ap (λ ws. walk_at (LoadsLink cell) ws) (sym (ap (λ t. slice_set now (target_place l cell.at) t) (sym same) ∙ set-get_or now (target_place l cell.at) 0)))

  module _ (cell : LinkedCell) (now : List ℕ) (unread : IsUnread now cell.at) where
    -- a target that leads into the old space is replaced
    at_old : (old : ℕ) → decode (heap_in l words (cell.at + 1)) ≡ PointerWord old → (b : Bool) → is_old l epoch old ≡ b
        → Goes (walk_at (if b then LoadsTargetHeader cell old else LoadsLink cell) now)
        (walk_at (LoadsLink cell) (slice_set now (target_place l cell.at) (if b then replacement (decode (heap_in l words old)) else heap_in l words (cell.at + 1)))) 2
    at_old old leads true back =
        let same = unread.old old (record { leads = leads; back = back }) in
        subst
        (λ w. Goes (walk_at (LoadsTargetHeader cell old) now) (walk_at (LoadsLink cell) (slice_set now (target_place l cell.at) (replacement (decode w)))) 2)
        same
        (then_runs walk_machine _ _ _ 1 1
        (one_step_runs walk_machine (walk_at (LoadsTargetHeader cell old) now))
        (one_step_runs walk_machine (walk_at (StoresTarget cell (replacement (decode (heap_in l now old)))) now)))
    at_old old leads false back = stays cell now unread.target

    by_said : (d : Decoded) → decode (heap_in l words (cell.at + 1)) ≡ d
        → Goes (walk_at (by_target l epoch cell d) now)
        (walk_at (LoadsLink cell) (slice_set now (target_place l cell.at) (target_said l epoch (heap_in l words) (heap_in l words (cell.at + 1)) d))) 2
    by_said (PointerWord old) says = at_old old says (is_old l epoch old) refl
    by_said _ says = stays cell now unread.target

    -- from a cell's target to its link
    passes_target : Goes (walk_at (LoadsTarget cell) now) (walk_at (LoadsLink cell) (with_target now cell.at)) 3
    passes_target =
        then_runs walk_machine _ _ _ 1 2
        (one_step_runs walk_machine (walk_at (LoadsTarget cell) now))
        (subst (λ w. Goes (walk_at (by_target l epoch cell (decode w)) now) (walk_at (LoadsLink cell) (with_target now cell.at)) 2) (sym unread.target)
        (by_said (decode (heap_in l words (cell.at + 1))) refl))

  -- the cells that are still to come stay unread when another's target is stored
  still_unread : (cell other : ℕ) (now : List ℕ) → AreApart cell other → ((old : ℕ) → LeadsBack l epoch words other old → IsNotOf cell old)
      → IsUnread now other → IsUnread (with_target now cell) other
  still_unread cell other now apart beside unread =
      let v : ℕ = target_passed l epoch words cell in
      let other_word : (x : ℕ) → x ≢ cell + 1 → heap_in l (with_target now cell) x ≡ heap_in l now x =
      λ x far. get_or-set_other now (target_place l cell) (place_of l.pages (HeapWord x)) v 0 (λ same. far (word_places l.pages x (cell + 1) same)) in
      record {
        target = other_word (other + 1) (λ same. apart_targets apart same) ∙ unread.target;
        link = other_word (other + 2) (λ same. apart_link apart same) ∙ unread.link;
        old = λ address back. other_word address (λ same. old_apart (beside address back) same) ∙ unread.old address back;
      }
    where
      apart_targets : AreApart cell other → other + 1 ≡ cell + 1 → ⊥
      apart_targets a same = ⊎_elim (λ (b : cell + 2 < other). omega arith) (λ (b : other + 2 < cell). omega arith) a

      apart_link : AreApart cell other → other + 2 ≡ cell + 1 → ⊥
      apart_link a same = ⊎_elim (λ (b : cell + 2 < other). omega arith) (λ (b : other + 2 < cell). omega arith) a

      old_apart : {address : ℕ} → IsNotOf cell address → address ≡ cell + 1 → ⊥
      old_apart {address} a same = ⊎_elim (λ (b : address < cell). omega arith) (λ (b : cell + 2 < address). omega arith) a

  -- a cell's link is not its target
  link_stays : (cell : ℕ) (now : List ℕ) → heap_in l (with_target now cell) (cell + 2) ≡ heap_in l now (cell + 2)
  link_stays cell now =
      get_or-set_other now (target_place l cell) (place_of l.pages (HeapWord (cell + 2))) (target_passed l epoch words cell) 0
      (λ same. let e = word_places l.pages (cell + 2) (cell + 1) same in absurd (omega arith))

  -- along a link, over all cells that are still to come
  passes_all : (cells : List ℕ) (now : List ℕ) (link most : ℕ) → length cells ≤ most → LeadsAlong (heap_in l words) link cells
      → AllPairs AreApart cells → LieBesideOld l epoch words cells → All (λ cell. IsUnread now cell) cells
      → Goes (walk_at (along most link) now) (walk_at (Ended Passed) (with_words (map (entry_passed l epoch words) cells) now)) (4 * most)
  passes_all [] now link most few leads apart beside unread =
      subst (λ w. Goes (walk_at (along most w) now) (walk_at (Ended Passed) now) (4 * most)) (sym leads) (no_step_runs walk_machine _ _ (4 * most) refl)
  passes_all (cell ∷ cells) now link most few leads apart beside unread =
      let here : LinkedCell = record { at = cell; most = most } in
      let ended : Working Walking = walk_at (Ended Passed) (with_words (map (entry_passed l epoch words) cells) (with_target now cell)) in
      let first : IsUnread now cell = unread 0 0 (omega arith) in
      let link_is : heap_in l words (cell + 2) ≡ heap_in l (with_target now cell) (cell + 2) = sym (link_stays cell now ∙ first.link) in
      let rest : Goes (walk_at (along (most - 1) (heap_in l words (cell + 2))) (with_target now cell)) ended (4 * (most - 1)) =
      passes_all cells (with_target now cell) (heap_in l words (cell + 2)) (most - 1) (omega arith) leads.1
      (λ i j d before within. apart (suc i) (suc j) d (omega arith) (omega arith))
      (λ k d within j e inside. beside (suc k) d (omega arith) (suc j) e (omega arith))
      (λ k d within.
      still_unread cell _ now (apart 0 (suc k) d (omega arith) (omega arith)) (beside 0 d (omega arith) (suc k) d (omega arith)) (unread (suc k) d (omega arith))) in
      let behind : Goes (walk_at (LoadsLink here) (with_target now cell)) ended (1 + 4 * (most - 1)) =
      then_runs walk_machine _ _ _ 1 (4 * (most - 1))
      (one_step_runs walk_machine (walk_at (LoadsLink here) (with_target now cell)))
      (subst (λ w. Goes (walk_at (along (most - 1) w) (with_target now cell)) ended (4 * (most - 1))) link_is rest) in
      let all : Goes (walk_at (LoadsTarget here) now) ended (4 * most) =
      in_more walk_machine _ _ (3 + (1 + 4 * (most - 1))) (4 * most) (omega arith)
      (then_runs walk_machine _ _ _ 3 (1 + 4 * (most - 1)) (passes_target here now first) behind) in
      subst (λ x. Goes (walk_at x now) ended (4 * most)) (sym (ap (λ w. along most w) leads.0 ∙ along-next most cell (omega arith))) all

  -- ---- from the turn on

  ended_stays : (n : ℕ) (now : List ℕ) → alone walk_machine n (walk_at (Ended Passed) now) ≡ walk_at (Ended Passed) now
  unfolding alone
  ended_stays zero now = refl
  ended_stays (suc n) now = ended_stays n now

  abbrev with_turn : List ℕ
  with_turn = slice_set words (place_of l.pages WeakTurn) (epoch + 1)

  -- the exchange of the turn's word, if it is as it was read, or not
  after_exchange : (found : ℕ) → Bool → Working Walking
  after_exchange found b = walk_at (stage_after l epoch (TakesTurn found) (if b then Won else Lost found)) (if b then with_turn else words)

  takes_turn : row_word l.pages WeakTurn words < epoch + 1 → Goes at_first (walk_at LoadsWeak with_turn) 2
  unfolding after_exchange
  takes_turn earlier =
      let found : ℕ = row_word l.pages WeakTurn words in
      let free : nat_lt epoch found ≡ false = grind (arith, nat_tests) in
      let same : (found == found) ≡ true = grind (arith, nat_tests) in
      let read : Goes at_first (walk_at (TakesTurn found) words) 1 =
      subst (λ b. Goes at_first (walk_at (if b then Ended (Another found) else TakesTurn found) words) 1) free
      (one_step_runs walk_machine at_first) in
      let won : Goes (walk_at (TakesTurn found) words) (walk_at LoadsWeak with_turn) 1 =
      subst (λ b. Goes (walk_at (TakesTurn found) words) (after_exchange found b) 1) same (one_step_runs walk_machine (walk_at (TakesTurn found) words)) in
      then_runs walk_machine _ _ _ 1 1 read won

  -- the turn's word is none that the walk is to read
  turn_else : (x : ℕ) → heap_in l with_turn x ≡ heap_in l words x
  turn_else x = get_or-set_other words (place_of l.pages WeakTurn) (place_of l.pages (HeapWord x)) (epoch + 1) 0 (turn_apart l.pages x)

  all_unread : (cell : ℕ) → IsUnread with_turn cell
  all_unread cell = record { target = turn_else (cell + 1); link = turn_else (cell + 2); old = λ address back. turn_else address }

  walks : (cells : List ℕ) → IsChain l epoch words cells → row_word l.pages WeakTurn words < epoch + 1
      → Goes at_first (walk_at (Ended Passed) (words_passed l epoch words cells)) (4 * most_cells l.pages + 3)
  walks cells chain earlier =
      let most : ℕ = most_cells l.pages in
      let ended : Working Walking = walk_at (Ended Passed) (words_passed l epoch words cells) in
      let weak : row_word l.pages WeakHead words ≡ row_word l.pages WeakHead with_turn =
      sym (get_or-set_other words (place_of l.pages WeakTurn) (place_of l.pages WeakHead) (epoch + 1) 0 (head_apart l.pages)) in
      let rest : Goes (walk_at (along most (row_word l.pages WeakHead with_turn)) with_turn) ended (4 * most) =
      subst (λ w. Goes (walk_at (along most w) with_turn) ended (4 * most)) weak
      (passes_all cells with_turn (row_word l.pages WeakHead words) most chain.few chain.linked chain.apart chain.beside_old (λ k d within. all_unread _)) in
      in_more walk_machine _ _ (2 + (1 + 4 * most)) (4 * most + 3) (omega arith)
      (then_runs walk_machine _ _ _ 2 (1 + 4 * most) (takes_turn earlier)
      (then_runs walk_machine _ _ _ 1 (4 * most) (one_step_runs walk_machine (walk_at LoadsWeak with_turn)) rest))

pub chains_are_walked : ChainsAreWalked
chains_are_walked l epoch words cells chain earlier =
    at_last walk_machine _ _ (4 * most_cells l.pages + 3) (walks l epoch words cells chain earlier)
    (λ more. ended_stays l epoch words more (words_passed l epoch words cells))
