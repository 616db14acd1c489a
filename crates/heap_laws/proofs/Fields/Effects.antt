-- What a running mutator's registers, and the words that it accesses, are to the plain machine.
use Rattle.std.proofs.Common.{◌≡◌, ℕ, ◌+◌, ◌-◌, ◌/◌, ◌<◌, length, get_or, slice_get, Option, Some, refl, sym, ap, ◌∙◌, subst, arith, inl, ⊎_elim}
use Rattle.std.specs.Option.{option_and_then}
use Rattle.std.proofs.lemmas.Bool.{ltb-true}
use Rattle.std.proofs.lemmas.Option.{slice_get-get_or}
use Rattle.heap_words.proofs.Decoding.{decode-number_word}
use Rattle.heap_words.specs.Decoded.{Decoded, NumberWord, HeaderWord, decode, number_in}
use Rattle.plain_state.specs.declared.sizes.TheConstants.{NUMBERS}
use Rattle.heap_words.specs.Word.{number_word}
use Rattle.plain_state.specs.Cells.{cell_of, value_of_cell}
use Rattle.plain_state.specs.Layout.{is_field, values_at, words_behind, word_of_value}
use Rattle.plain_state.specs.State as plain
use Rattle.plain_state.specs.declared.kind.Kind.{Kind}
use Rattle.plain_state.specs.declared.kind.Kind.TheVariants.{Weak}
use Rattle.plain_state.specs.declared.value.Identity.{Identity}
use Rattle.plain_state.specs.declared.value.Value.{Value}
use Rattle.plain_state.specs.declared.value.Value.TheVariants.{Number}
use Rattle.heap_state.specs.Memory.Era.{Era, Memory}
use Rattle.heap_state.specs.Invariant.Ghost.{Ghost, header_kind}
use Rattle.heap_state.specs.Invariant.Parts.Knowledge.{HasRole, Accesses}
use Rattle.heap_state.specs.Meaning.Values.{value_of, MayBeEmptied, Shown, Shows}
use Rattle.heap_state.specs.Targets.{IsCell}
use Rattle.heap_state.specs.Known.{Team, Role, FieldRole, NumberRole, TargetRole, UnknownRole, Access}
use Rattle.heap_state.proofs.Records.KindsOfHeaders.{said_there}
use Rattle.heap_state.proofs.Records.Holding.{uncopied_here}
use Rattle.heap_state.proofs.Records.Layouts.{raw_is_no_field, field_within, number_within}
use Rattle.heap_state.proofs.Puts.{some_same, true_false, none≢some}
use Rattle.heap_laws.specs.Fields.Effects.{MutatorsAreShown, RegistersHold, HeadersSay, CountsAreRead, word_held, word_stored, FitsRole, IsValueOf, IsFieldOrNumber, AccessesAreValues, IsTargetOf, TargetsAreValues, BoardWordsAreValues}
use Rattle.heap_laws.specs.Fields.Words.{IsWordOf, IsAccessed, MayStore, StandsFor}
use Rattle.heap_laws.specs.Fields.Held.{HoldsValue}
use Rattle.heap_laws.specs.Opening.{opening_mutator}
use Rattle.heap_laws.specs.Steps.{Ready}
use Rattle.heap_laws.proofs.Fields.Shown.{headers_are_read, registers_are_held, numbers_are_held}
use Rattle.heap_laws.proofs.Fields.Stored.{accesses_are_allowed, words_are_loaded, board_is_loaded}
use Rattle.heap_laws.proofs.Frames.Values.{value_from_pointer}
use Rattle.heap_laws.proofs.Targets.TracedTargets.{traced_targets_are_held}

-- ---- words

value_of_number : (identity : ℕ → Identity) (w n : ℕ) → decode w ≡ NumberWord n → value_of identity w ≡ Some (Number n)
unfolding value_of
value_of_number identity w n e = rw e refl

-- a number by itself is held as a number word
holds_number : (E : Era) (g : Ghost) (v : ℕ) → v < NUMBERS → HoldsValue E g (number_word v) (Number v)
holds_number E g v small = let d = decode-number_word v small in record { held = numbers_are_held E g.size g.writer (number_word v) v d; denotes = value_of_number g.identity (number_word v) v d }

number_word_of : (d : Decoded) (v : ℕ) → number_in d ≡ Some v → d ≡ NumberWord v
number_word_of (NumberWord n) v e = ap NumberWord (some_same e)
number_word_of _ v e = none≢some e

-- ---- mutators and registers

pub mutators_are_shown : MutatorsAreShown
mutators_are_shown E m team g p k ready s mutator =
    let inv = ready.invariant in
    let l = ltb-true k team.mutators (sym (inv.staffed.posts k ready.member) ∙ mutator) in
    let is : slice_get p.mutators k ≡ Some (get_or p.mutators k opening_mutator) = slice_get-get_or p.mutators k opening_mutator (let n = s.as_many in omega (arith, l, n)) in
    (get_or p.mutators k opening_mutator, record { is = is; same = record { account = s.accounts k (get_or p.mutators k opening_mutator) is; registers = s.registers k (get_or p.mutators k opening_mutator) is } })

pub registers_hold : RegistersHold
registers_hold E m team g p k q j ready runner mutator late no_end small =
    let w : ℕ = (team.worker k).registers j in
    let y : Value = get_or q.registers j (Number 0) in
    let n = runner.same.registers.eight in
    let is : slice_get q.registers j ≡ Some y = slice_get-get_or q.registers j (Number 0) (omega (arith, n, small)) in
    let denotes : value_of g.identity w ≡ Some y = runner.same.registers.registers_show (sym runner.same.account.end ∙ no_end) j small ∙ is in (
      y,
      is,
      record {
        holds = record { held = registers_are_held E m team g k j ready mutator late no_end small; denotes = denotes };
        number = λ n e. some_same (sym denotes ∙ value_of_number g.identity w n e);
        reference = λ a e. some_same (sym denotes ∙ value_from_pointer g.identity w a e);
      },
    )

-- ---- headers

pub headers_say : HeadersSay
headers_say E m team g p k a len serial mutator w head ready s held points says =
    let led = headers_are_read E m team g p k w a ready s held points in
    let r : plain.Record = led.shows.0 in
    let shows : Shows (value_of g.identity) m.heap a (g.kind a) (g.size a) r = led.shows.2 in
    let same : HeaderWord (header_kind (g.kind a)) (g.size a - 1) (g.identity a).serial (g.identity a).mutator ≡ HeaderWord head len serial mutator = sym led.header ∙ says in
    let head_is : header_kind (g.kind a) ≡ head = cc in
    let len_is : g.size a - 1 ≡ len = cc in
    record {
      record_there = r;
      is = led.shows.1;
      kind = shows.kind ∙ sym (rw head_is at (said_there g.size g.writer g.kind m.heap ready.invariant.raw_words ready.invariant.counts a led.stands.0 led.stands.1));
      long = let z = shows.size in omega arith;
      access = λ x role l has. let z = shows.size in let b = ap values_at shows.kind in record {
        stands = led.stands.0;
        written = led.stands.1;
        inside = led.inside;
        first = b;
        word = (omega arith, omega (arith, l, z));
        role = subst (λ k. HasRole k (word_of_value r.kind x) role) shows.kind has;
      };
    }

-- ---- counts

-- the number of a number word below 2^62 is below it too
number_short : (v n : ℕ) → v < NUMBERS → v ≡ number_word n → n < NUMBERS
unfolding number_word
number_short v n short is = omega (arith, short, is)

pub counts_are_read : CountsAreRead
counts_are_read E m team g p k f ready s has unknown =
    let inv = ready.invariant in
    let a = (inv.workers k ready.member).access f has in
    let mixed : HasRole (g.kind f.at) f.word UnknownRole = rw unknown at a.role in
    let shown = s.objects.shows f.at a.stands a.written (inl (uncopied_here E m team g inv ready.laid_out f.at a.stands a.inside.0 a.inside.1).0) in
    let counted = inv.counts.counts f.at mixed.0 a.stands a.written mixed.1 in
    let kind_is = shown.2.kind ∙ mixed.1 in
    record {
      record_there = shown.0;
      is = shown.1;
      count = mixed.0;
      kind = kind_is;
      says = ap decode counted.0 ∙ decode-number_word mixed.0 (number_short (m.heap (f.at + 1)) mixed.0 (inv.raw_words.raw f.at 1 a.stands a.written (omega arith) (let l = counted.1 in omega (arith, l)) (ap (λ (k : Kind). is_field k 1) mixed.1)) counted.0);
      within = let z = shown.2.size in let b = ap values_at kind_is in let n = ap words_behind kind_is in let l = a.word.1 in omega (arith, z, b, n, l);
      access = λ role is. record { stands = a.stands; written = a.written; inside = a.inside; first = a.first; word = a.word; role = subst (λ (k : Kind). HasRole k f.word role) (sym mixed.1) is };
    }

-- ---- words of records

module _ (E : Era) (m : Memory) (team : Team) (g : Ghost) (p : plain.Plain) (k : ℕ) (f : Access) (x : ℕ) (ready : Ready E m team g k) (s : Shown E m team g p) (has : (team.worker k).access ≡ Some f)
    (known : IsFieldOrNumber f.role) (opened : (team.worker k).opened ≡ Some ((f.at + f.word) / 64)) (at : f.word ≡ word_of_value (g.kind f.at) x) where
  abbrev kind : Kind
  kind = g.kind f.at

  there : IsAccessed E m g f
  there = accesses_are_allowed E m team g k f ready has opened

  word : IsWordOf E g.size g.writer g.kind f.at x
  word = there.word x at

  place : f.at + f.word ≡ f.at + word_of_value kind x
  place = omega (arith, at)

  shown : (r : plain.Record) × (plain.record_of p.heap (g.identity f.at) ≡ Some r) × Shows (value_of g.identity) m.heap f.at kind (g.size f.at) r
  shown = s.objects.shows f.at word.stands word.written (inl (uncopied_here E m team g ready.invariant ready.laid_out f.at word.stands word.inside.0 word.inside.1).0)

  abbrev r : plain.Record
  r = shown.0

  shows : Shows (value_of g.identity) m.heap f.at kind (g.size f.at) r
  shows = shown.2

  abbrev y : Value
  y = get_or r.values x (Number 0)

  role_there : HasRole kind (word_of_value kind x) f.role
  role_there = rw at at there.role

  within : x < length r.values
  within = by_role f.role known role_there
    where
      by_role : (role : Role) → IsFieldOrNumber role → HasRole kind (word_of_value kind x) role → x < length r.values
      by_role FieldRole is t = field_within r shows x t word.last
      by_role NumberRole is t = number_within r shows x t word.last
      by_role TargetRole is t = absurd is
      by_role UnknownRole is t = absurd is

  value_is : slice_get r.values x ≡ Some y
  value_is = slice_get-get_or r.values x (Number 0) within

  may : MayStore E g.size g.writer kind x (m.heap (f.at + word_of_value kind x))
  may = words_are_loaded E m team g k f.at x ready word (rw place at there.opens)

  -- by what stands there
  loaded : (role : Role) → IsFieldOrNumber role → HasRole kind (word_of_value kind x) role → HoldsValue E g (word_held role (m.heap (f.at + word_of_value kind x))) y
  loaded FieldRole is t = record { held = may.held t; denotes = shows.fields x within t ∙ value_is }
  loaded NumberRole is t = let e : Number (m.heap (f.at + word_of_value kind x)) ≡ y = some_same (shows.numbers x within t ∙ value_is) in rw (← e) (holds_number E g (m.heap (f.at + word_of_value kind x)) (may.number (raw_is_no_field kind (word_of_value kind x) t)))
  loaded TargetRole is t = absurd is
  loaded UnknownRole is t = absurd is

  stored : (role : Role) → HasRole kind (word_of_value kind x) role → (w v : ℕ) (u : Value) → HoldsValue E g w u → word_stored role w ≡ Some v → FitsRole role v
      → MayStore E g.size g.writer kind x v × StandsFor g kind x v u
  stored FieldRole t w v u holds e fits =
      let same : w ≡ v = some_same e in (
        record { held = λ _. rw same at holds.held; number = λ n. true_false n t },
        record { denotes = λ _. rw same at holds.denotes; number = λ n. true_false (raw_is_no_field kind (word_of_value kind x) n) t },
      )
  stored NumberRole t w v u holds e fits =
      let d = number_word_of (decode w) v e in
      let n = raw_is_no_field kind (word_of_value kind x) t in (
        record { held = λ o. true_false n o; number = λ _. fits },
        record { denotes = λ o. true_false n o; number = λ _. some_same (sym (value_of_number g.identity w v d) ∙ holds.denotes) },
      )
  stored TargetRole t w v u holds e fits = none≢some e
  stored UnknownRole t w v u holds e fits = none≢some e

  is_value : IsValueOf E m g p f x
  is_value = record {
    record_there = r;
    is = shown.1;
    kind = shows.kind;
    role = rw shows.kind role_there;
    word = word;
    opens = there.opens;
    value = y;
    there = value_is;
    loaded = rw place (loaded f.role known role_there);
    stored = λ w v u holds e fits. stored f.role role_there w v u holds e fits;
  }

pub accesses_are_values : AccessesAreValues
accesses_are_values = is_value

-- ---- targets of cells

module _ (E : Era) (m : Memory) (team : Team) (g : Ghost) (p : plain.Plain) (k : ℕ) (f : Access) (ready : Ready E m team g k) (s : Shown E m team g p)
    (a : Accesses E g.size g.writer g.kind f) (has : HasRole (g.kind f.at) f.word TargetRole) (traced : m.traced ≡ E.epoch + 1) where
  here : IsCell g f.at
  here = record { stands = a.stands; written = a.written; weak = has.0 }

  cell_shown : (r : plain.Record) × (plain.record_of p.heap (g.identity f.at) ≡ Some r) × Shows (value_of g.identity) m.heap f.at (g.kind f.at) (g.size f.at) r
  cell_shown = s.objects.shows f.at a.stands a.written (inl (uncopied_here E m team g ready.invariant ready.laid_out f.at a.stands a.inside.0 a.inside.1).0)

  abbrev cell : plain.Record
  cell = cell_shown.0

  kind_there : cell.kind ≡ Weak
  kind_there = cell_shown.2.kind ∙ has.0

  has_value : 0 < length cell.values
  has_value =
      let z = cell_shown.2.size in
      let b = ap values_at kind_there in
      let n = ap words_behind kind_there in
      let three = ready.invariant.cells.chain.three f.at a.stands has.0 in
      omega (arith, z, b, n, three)

  abbrev target : Value
  target = get_or cell.values 0 (Number 0)

  target_there : slice_get cell.values 0 ≡ Some target
  target_there = slice_get-get_or cell.values 0 (Number 0) has_value

  cell_is : cell_of p.heap (g.identity f.at) ≡ Some target
  cell_is = ap (λ (o : Option plain.Record). option_and_then value_of_cell o) cell_shown.1 ∙ rw kind_there target_there

  -- nothing is emptied in a traced epoch
  denotes_it : value_of g.identity (m.heap (f.at + 1)) ≡ Some target
  denotes_it = ⊎_elim
      (λ (e : value_of g.identity (m.heap (f.at + 1)) ≡ Some target). e)
      (λ (e : MayBeEmptied E m g f.at target). absurd (let l = e.walked.0 in omega (arith, l, traced)))
      (s.targets.shows f.at target (record { cell = here; place = inl a.inside }) cell_is)

  is_target : IsTargetOf E m g p f
  is_target = record {
    record_there = cell;
    is = cell_shown.1;
    value = target;
    there = target_there;
    loaded = subst (λ (n : ℕ). HoldsValue E g (m.heap (f.at + n)) target) (sym has.1) (record { held = traced_targets_are_held E m team g k f.at ready traced here a.inside.0 a.inside.1 ready.invariant.cells.targets; denotes = denotes_it });
  }

pub targets_are_values : TargetsAreValues
targets_are_values E m team g p k f ready s has role seen =
    let knows = ready.invariant.workers k ready.member in
    let a = knows.access f has in
    is_target E m team g p k f ready s a (subst (HasRole (g.kind f.at) f.word) role a.role) (knows.seen_traced seen).1

-- ---- words of the board

pub board_words_are_values : BoardWordsAreValues
board_words_are_values E m team g p k x ready s opens small =
    let n = s.board.sixteen in
    let is : slice_get p.heap.board x ≡ Some (get_or p.heap.board x (Number 0)) = slice_get-get_or p.heap.board x (Number 0) (omega (arith, n, small)) in
    (get_or p.heap.board x (Number 0), is, record { held = board_is_loaded E m team g k x ready small opens; denotes = s.board.board x small ∙ is })
