-- those so far
use Rattle.std.proofs.Common.{◌≡◌, ◌≤◌, length, take, vec_capacity, vec_len}
use Rattle.ael_threads.proofs.words.Words.to_vec.Given as goal

abbrev pub invariant-loop-place : goal.invariant-loop-place
invariant-loop-place l = record {
  made : l.words.items ≡ take l.place l.self;
  count : vec_len l.words ≡ l.place;
  room : length l.self ≤ vec_capacity l.words;
}
