use Rattle.std.proofs.Common.{◌≡◌, rules}
use Rattle.std.proofs.lemmas.Fn.{always_returns_same}
use Rattle.space_map.specs.Spaces.{board_page, first_word}
use Rattle.checkpoint_text.specs.Words.{saved_heap}
use Rattle.checkpoint_text.proofs.Sorts.{key_of, reached_moved}
use Rattle.checkpoint_text.proofs.visiting.listed.Goals as goal

pub returns : goal.returns
returns c = record {
  reached = reached_moved (saved_heap c.args.words.now) (first_word (board_page c.args.words.now.spaces.pages)) c.in_ok-records.records.items c.sort_unstable_by_key.new.self.items c.sort_unstable_by_key.ensures.permutation c.in_ok-records.ensures;
  sorted = c.sort_unstable_by_key.ensures.sorted key_of (always_returns_same _ (λ a r. r ≡ key_of a.0.now) _ (λ a r q k. search rules));
}
