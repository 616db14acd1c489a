-- The text of the benchmark.
use Rattle.std.specs.Prelude.{ℕ, ◌+◌, ◌*◌, ◌/◌, ◌%◌, ◌^◌, List, [], ◌++◌, codes, decimal, zero, suc}
use Rattle.std.specs.Fn.{iterate}
use Rattle.rand_xoshiro.specs.SplitMix64.{mix_u64, next_state}
use Rattle.benchmark.specs.declared.keys.Keys.{Keys}
use Rattle.benchmark.specs.declared.keys.TheConstants.{MUTATORS}

-- ---- the keys of a mutator

-- the word at a position of those that a seed gives by SplitMix64, whose state is the seed at first
abbrev pub seeded_word : ℕ → ℕ → ℕ
seeded_word seed at = (mix_u64 (iterate next_state at seed)).0

-- of so many keys the first is that of one word, and the addend of another, made odd
abbrev pub keys_by : ℕ → ℕ → ℕ → Keys
keys_by count first addend = record { first = first % count; addend = 2 * (addend % (count / 2)) + 1 }

-- the keys of mutator m, by two words: those after the words of the mutators before it
abbrev pub keys_of : ℕ → ℕ → ℕ → Keys
keys_of count seed m = keys_by count (seeded_word seed (2 * m)) (seeded_word seed (2 * m + 1))

-- ---- the text

-- A mutator makes a record for each key, and a raw one before it that is lost at once, and puts it into a tree; then it looks each
-- key up, and prints how many it found.
unfoldable pub section_text : ℕ → Keys → List ℕ
section_text count keys =
    codes ".mutator\nli r7 1\nli r0 0\nli r1 " ++ decimal keys.first ++ codes "\nli r2 " ++ decimal count
    ++ codes "\nins: raw r3 47\nnew r3 3\nst r3 0 r1\njz r0 root\nmov r4 r0\ndown: ld r5 r4 0\nlt r5 r1 r5\njz r5 right\n"
    ++ codes "ld r6 r4 1\njz r6 putl\nmov r4 r6\njmp down\nputl: st r4 1 r3\njmp next\nright: ld r6 r4 2\njz r6 putr\nmov r4 r6\njmp down\n"
    ++ codes "putr: st r4 2 r3\njmp next\nroot: mov r0 r3\nnext: li r5 5\nmul r1 r1 r5\nli r5 " ++ decimal keys.addend
    ++ codes "\nadd r1 r1 r5\nli r5 " ++ decimal count ++ codes "\nrem r1 r1 r5\nsub r2 r2 r7\njz r2 look\njmp ins\nlook: li r2 " ++ decimal count
    ++ codes "\nli r3 0\nfind: mov r4 r0\nseek: isp r5 r4\njz r5 step\nld r5 r4 0\neq r6 r5 r1\njz r6 on\nadd r3 r3 r7\njmp step\n"
    ++ codes "on: lt r6 r1 r5\njz r6 hi\nld r4 r4 1\njmp seek\nhi: ld r4 r4 2\njmp seek\nstep: li r5 5\nmul r1 r1 r5\nli r5 " ++ decimal keys.addend
    ++ codes "\nadd r1 r1 r5\nli r5 " ++ decimal count ++ codes "\nrem r1 r1 r5\nsub r2 r2 r7\njz r2 tell\njmp find\ntell: out r3\nhalt\n"

-- the sections of the mutators below m
unfoldable pub sections_text : ℕ → ℕ → ℕ → List ℕ
sections_text count seed zero = []
sections_text count seed (suc m) = sections_text count seed m ++ section_text count (keys_of count seed m)

-- the text of the benchmark, by the depth of its trees and the seed of their keys
abbrev pub bench_text : ℕ → ℕ → List ℕ
bench_text depth seed = sections_text (2 ^ depth) seed MUTATORS

-- the state of SplitMix64 behind the words that the text takes
abbrev pub seed_behind : ℕ → ℕ
seed_behind seed = iterate next_state (2 * MUTATORS) seed
