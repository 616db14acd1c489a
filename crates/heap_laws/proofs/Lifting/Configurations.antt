-- What a step makes of a configuration.
use Rattle.heap_laws.specs.Steps.{with_worker}
use Rattle.heap_state.specs.Invariant.Ghost.{Ghost}
use Rattle.heap_state.specs.Invariant.Inductive.{Invariant}
use Rattle.heap_state.specs.Meaning.Values.{Shown}
use Rattle.heap_state.specs.Memory.Era.{era_of, memory_of}
use Rattle.std.proofs.Common.{◌≡◌, ℕ, ◌+◌, ◌*◌, ◌<◌, ◌≤◌, arith, List, Option, Some, None, refl, length}
use Rattle.plain_state.specs.State.{Plain}
use Rattle.heap_state.specs.Configuration.{Configuration, Stands, table, era, team}
use Rattle.heap_state.specs.Memory.Entries.{Entry}
use Rattle.heap_state.specs.Memory.Table.{table_of, IsFormed, Table}
use Rattle.heap_state.specs.Known.{Team, Known}
use Rattle.heap_state.proofs.Table.LaidOut.{laid_out, table_pages}
use Rattle.heap_state.proofs.Workers.Teams.{team_changes}
use Rattle.heap_state.proofs.Table.Stores.{stores_entry}
use Rattle.heap_laws.specs.Lifting.{words_after_row, table_after, RowFits, configuration_after, StandingIsReady, StandsWith}

pub ready : StandingIsReady
ready c p s k l = record { laid_out = laid_out c.pages c.words s.formed; at_gate = refl; invariant = s.invariant; member = l }

-- ---- where the rows are

pub board_at : (c : Configuration) → (era c).board ≡ 128 * c.pages
board_at c = let n : (table c).pages ≡ c.pages = table_pages c.pages c.words in omega (arith, n)

-- a record lies below the board
pub below_board : (c : Configuration) (p : Plain) (s : Stands c p) (a : ℕ) → 0 < s.ghost.size a → a + s.ghost.size a ≤ 128 * c.pages
below_board c p s a st =
    let y = s.invariant.laid.lies a st in let o = s.invariant.laid.order in let l = laid_out c.pages c.words s.formed in let b = board_at c in
    omega (arith, y, o, l.below, l.old_below, b)

-- ---- what a step makes

words_formed : (n : ℕ) (words : List ℕ) (e : Option Entry) → IsFormed n words → RowFits n e → IsFormed n (words_after_row n words e)
words_formed n words None formed fits = formed
words_formed n words (Some e) formed fits = (stores_entry n words e formed fits).formed

words_say : (n : ℕ) (words : List ℕ) (e : Option Entry) → IsFormed n words → RowFits n e → table_of n (words_after_row n words e) ≡ table_after (table_of n words) e
words_say n words None formed fits = refl
words_say n words (Some e) formed fits = (stores_entry n words e formed fits).says

same_team : (a b : Team) → a.mutators ≡ b.mutators → a.count ≡ b.count → a.worker ≡ b.worker → a ≡ b
same_team a b mutators count worker = λ i. record { mutators = mutators i; count = count i; worker = worker i }

-- the configuration has this table and this team
pub record Says (c : Configuration) (t : Table) (all : Team) : Type 0 where
  pub formed : IsFormed c.pages c.words
  pub table_said : table c ≡ t
  pub team_said : team c ≡ all

abbrev pub StepsAreSeen : Type 0
StepsAreSeen = (c : Configuration) (e : Option Entry) (k : ℕ) (w : Known) → IsFormed c.pages c.words → k < length c.workers → RowFits c.pages e
    → Says (configuration_after c e k w) (table_after (table c) e) (with_worker (team c) k w)

pub seen : StepsAreSeen
seen c e k w formed l fits =
    let t = team_changes c.mutators c.workers k w l in
    record {
      formed = words_formed c.pages c.words e formed fits;
      table_said = words_say c.pages c.words e formed fits;
      team_said = same_team _ _ refl t.count t.worker;
    }

-- after a step by which the invariant is kept and a plain state shown the configuration stands
abbrev pub StepsStand : Type 0
StepsStand = (c : Configuration) (p q : Plain) (e : Option Entry) (k : ℕ) (w : Known) (h : Ghost) → Stands c p → k < length c.workers → RowFits c.pages e
    → Invariant (era_of (table_after (table c) e)) (memory_of (table_after (table c) e)) (with_worker (team c) k w) h
    → Shown (era_of (table_after (table c) e)) (memory_of (table_after (table c) e)) (with_worker (team c) k w) h q
    → StandsWith (configuration_after c e k w) q h

pub stand : StepsStand
stand c p q e k w h s l fits invariant shown =
    let y = seen c e k w s.formed l fits in
    record {
      stands = record {
        size = s.size;
        formed = y.formed;
        ghost = h;
        invariant = rw (y.table_said, y.team_said) invariant;
        shown = rw (y.table_said, y.team_said) shown;
      };
      with_ghost = refl;
    }
