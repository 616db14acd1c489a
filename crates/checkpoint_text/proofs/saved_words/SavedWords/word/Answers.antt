use Rattle.std.proofs.Common.{◌≡◌, ℕ, true, false, sym, ◌∙◌, subst, arith}
use Rattle.heap_state.specs.Saving.Words.{reads_saved, saves_of}
use Rattle.checkpoint_text.proofs.CheckpointPlaces.{beyond_is, heap_is, image_is}
use Rattle.checkpoint_text.proofs.saved_words.SavedWords.word.Goals as goal

pub returns-then-address-heap_len : goal.returns-then-address-heap_len
returns-then-address-heap_len c = sym (beyond_is c.args.self.now.spaces.pages c.args.self.now.words.now c.args.address (omega arith))

pub returns-then-reads_saved : goal.returns-then-reads_saved
returns-then-reads_saved c =
    let P : ℕ → Type 0 = λ page. reads_saved (saves_of c.args.self.now.spaces.pages c.args.self.now.words.now) page ≡ true in
    image_is c.args.self.now.spaces.pages c.args.self.now.words.now c.args.address c.image_place.result (omega arith) (subst P c.page_of.ensures (sym c.reads_saved.ensures ∙ c.if-reads_saved.true)) c.image_place.ensures.place

pub returns : goal.returns
returns c =
    let P : ℕ → Type 0 = λ page. reads_saved (saves_of c.args.self.now.spaces.pages c.args.self.now.words.now) page ≡ false in
    heap_is c.args.self.now.spaces.pages c.args.self.now.words.now c.args.address c.word_place.result (omega arith) (subst P c.page_of.ensures (sym c.reads_saved.ensures ∙ c.if-reads_saved.false)) c.word_place.ensures.place
