use Rattle.heap_state.specs.Memory.Entries.{GateIs, TracedIs, AreaIs, WeakIs, WeakTurnIs, SizeIs, PageIs, CrossIs, WordIs, AnnounceIs}
use Rattle.heap_state.proofs.Table.Stores.{stores_beside, stores_entry}
use Rattle.heap_state.proofs.Table.Writing.{writes_tables, writes_whole_tables}
use Rattle.heap_state.proofs.laws.rows_change_alone.Goals as goal

pub returns : goal.returns
returns c = record {
  gate = λ n words gate formed fits. stores_entry n words (GateIs gate) formed fits;
  traced = λ n words word formed. stores_entry n words (TracedIs word) formed tt;
  area = λ n words space area formed is fits. stores_entry n words (AreaIs space area) formed (is, fits);
  weak = λ n words word formed small. stores_entry n words (WeakIs word) formed small;
  weak_turn = λ n words word formed. stores_entry n words (WeakTurnIs word) formed tt;
  size = λ n words space pages formed is least most. stores_entry n words (SizeIs space pages) formed (is, least, most);
  page = λ n words p page formed is fits. stores_entry n words (PageIs p page) formed (is, fits);
  cross = λ n words p word formed is. stores_entry n words (CrossIs p word) formed is;
  heap_word = λ n words addr word formed is. stores_entry n words (WordIs addr word) formed is;
  announce = λ n words worker word formed is. stores_entry n words (AnnounceIs worker word) formed is;
  beside = stores_beside;
  entry = stores_entry;
  written = writes_tables;
  whole = writes_whole_tables;
}
