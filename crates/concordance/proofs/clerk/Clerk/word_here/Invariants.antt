-- the letters so far
use Rattle.std.proofs.Common.{◌≡◌, ◌≤◌, length, take, vec_capacity, vec_len}
use Rattle.concordance.specs.Gathering.{HasRead, LeadsToEntry, whole_desk_of, whole_register}
use Rattle.concordance.proofs.Gathered.Walks.{SeesLetters}
use Rattle.concordance.proofs.clerk.Clerk.word_here.Given as goal

abbrev pub invariant-loop-place : goal.invariant-loop-place
invariant-loop-place g l = record {
  read : HasRead l.fn.self l.self;
  here : whole_register (whole_desk_of l.self) 2 ≡ whole_register (whole_desk_of l.fn.self) 2;
  letters : (led : LeadsToEntry (whole_desk_of l.fn.self) 2) → SeesLetters l.self 4 led.clerk led.note.word;
  count : (led : LeadsToEntry (whole_desk_of l.fn.self) 2) → l.length ≡ length led.note.word;
  so_far : (led : LeadsToEntry (whole_desk_of l.fn.self) 2) → l.word.items ≡ take l.place led.note.word;
  taken : vec_len l.word ≡ l.place;
  room : l.length ≤ vec_capacity l.word;
}
