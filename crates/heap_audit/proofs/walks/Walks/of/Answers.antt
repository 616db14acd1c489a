use Rattle.std.proofs.Common.{◌≡◌, ◌∙◌, ◌++◌, List, true, false, get_or, length, map, sym, ap, subst, arith}
use Rattle.std.specs.Prelude.{◌↔◌}
use Rattle.std.specs.List.{Contains}
use Rattle.std.proofs.lemmas.List.{length-map}
use Rattle.heap_state.specs.Meaning.Represents.{IsCopying, IsInHeap}
use Rattle.heap_state.specs.Memory.Walk.{Walked, old_walk_in, walk_in}
use Rattle.heap_audit.specs.Firsts.{TellsFirst}
use Rattle.heap_audit.specs.Breaks.{BreaksAt}
use Rattle.heap_audit.specs.Told.{dump_told}
use Rattle.heap_audit.specs.Walks.{walked}
use Rattle.heap_audit.specs.declared.walks.RecordAt.{RecordAt}
use Rattle.heap_audit.proofs.WalkedSpaces.Begins.{Notes, begins_in}
use Rattle.heap_audit.proofs.WalkedSpaces.SpaceWalks.{both_breaks, both_found, found_within, now_breaks, now_found}
use Rattle.heap_audit.proofs.ShownRecords.ToldWords.{pages_is}
use Rattle.heap_audit.proofs.walks.Walks.of.Goals as goal
use Rattle.heap_audit.proofs.walks.Walks.of.Goals.{then-is_copying+in_ok-broken, else-is_copying}

pub begins-requires : goal.begins-requires
begins-requires c =
    let d = dump_told c.args.heap.now in
    let rs = c.if-is_copying.records.items in
    let now : map walked c.walk_now.new.found.items ≡ walk_in d.table d.kept =
    c.in_ok-first_break.ensures.met ∙ ap (λ (xs : List RecordAt). map walked xs ++ walk_in d.table d.kept) c.new-records.ensures.items in
    let found : (w : Walked) → Contains (map walked rs) w ↔ IsInHeap d w =
    elim c.if-is_copying.branch [
      | then-is_copying+in_ok-broken w ↦
          both_found d rs (c.is_copying.ensures.0 w.if-is_copying.true)
          (ap (λ xs. map walked xs.items) w.records-is ∙ (w.in_ok-broken.ensures.met ∙ ap (λ (ws : List Walked). ws ++ old_walk_in d.table d.kept) now))
      | else-is_copying w ↦
          now_found d rs (λ copying. let q : true ≡ false = sym (c.is_copying.ensures.1 copying) ∙ w.if-is_copying.false in cc)
          (ap (λ xs. map walked xs.items) w.records-is ∙ now)
    ] in
    λ k z l.
    let within = found_within d rs c.args.heap.now.spaces.pages (pages_is c.args.heap.now.spaces.pages c.args.heap.now.words.now) c.requires.ordered found k z (omega (arith, l, ap length c.as_slice.ensures.value)) in
    let same = ap (λ (xs : List RecordAt). (get_or xs k z).at) c.as_slice.ensures.value in
    omega (arith, within, same, c.pages.ensures.pages)

pub returns : goal.returns
returns c =
    let d = dump_told c.args.heap.now in
    let rs = c.if-is_copying.records.items in
    let now : map walked c.walk_now.new.found.items ≡ walk_in d.table d.kept =
    c.in_ok-first_break.ensures.met ∙ ap (λ (xs : List RecordAt). map walked xs ++ walk_in d.table d.kept) c.new-records.ensures.items in
    let count : c.len-now.result ≡ length (walk_in d.table d.kept) = omega (arith, c.len-now.ensures, length-map c.walk_now.new.found.items walked, ap length now) in
    let notes : Notes c.in_ok-begins.begins.items rs = subst (λ (xs : List RecordAt). Notes c.in_ok-begins.begins.items xs) c.as_slice.ensures.value c.in_ok-begins.ensures in
    elim c.if-is_copying.branch [
      | then-is_copying+in_ok-broken w ↦
          (let copying : IsCopying d.table = c.is_copying.ensures.0 w.if-is_copying.true in
          let is : map walked rs ≡ walk_in d.table d.kept ++ old_walk_in d.table d.kept =
          ap (λ xs. map walked xs.items) w.records-is ∙ (w.in_ok-broken.ensures.met ∙ ap (λ (ws : List Walked). ws ++ old_walk_in d.table d.kept) now) in
          record {
            copying = λ c. is;
            traced = λ traced. absurd (traced copying);
            now = count;
            breaks = subst (TellsFirst (λ a. BreaksAt d a → ⊥)) (sym (w.first_break-is ∙ w.least-first_break.ensures))
                (both_breaks d c.in_ok-first_break.first_break w.in_ok-broken.broken c.in_ok-first_break.ensures.breaks w.in_ok-broken.ensures.breaks copying);
            begins = begins_in d rs c.in_ok-begins.begins.items (both_found d rs copying is) notes;
          })
      | else-is_copying w ↦
          (let traced : IsCopying d.table → ⊥ = λ copying. let q : true ≡ false = sym (c.is_copying.ensures.1 copying) ∙ w.if-is_copying.false in cc in
          let is : map walked rs ≡ walk_in d.table d.kept = ap (λ xs. map walked xs.items) w.records-is ∙ now in
          record {
            copying = λ copying. absurd (traced copying);
            traced = λ traced. is;
            now = count;
            breaks = subst (TellsFirst (λ a. BreaksAt d a → ⊥)) (sym w.first_break-is) (now_breaks d c.in_ok-first_break.first_break c.in_ok-first_break.ensures.breaks traced);
            begins = begins_in d rs c.in_ok-begins.begins.items (now_found d rs traced is) notes;
          })
    ]
