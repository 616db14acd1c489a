-- The words that a round reads: TRACED, the pages' and those of announced places.
use Rattle.std.proofs.Common.{◌≡◌, ℕ, ◌*◌, ◌≤◌, Some}
use Rattle.plain_state.specs.State.{Plain}
use Rattle.space_map.specs.PageWord.{age_of, decode_page}
use Rattle.space_map.specs.Table.{Traced, Page, Announce}
use Rattle.heap_state.specs.Configuration.{Configuration, Stands, table}
use Rattle.heap_state.specs.Memory.Table.{table_of, word_in}
use Rattle.gc_worker.specs.Laws.Step.{age}

abbrev pub traced_now : Configuration → ℕ
traced_now c = word_in c.pages c.words Traced

pub traced_word : (c : Configuration) → (table c).traced ≡ traced_now c
unfolding table_of
traced_word c = λ i. traced_now c

abbrev pub page_now : Configuration → ℕ → ℕ
page_now c page = word_in c.pages c.words (Page page)

pub page_says : (c : Configuration) (p : Plain) → Stands c p → (page : ℕ) → page ≤ 2 * c.pages → decode_page (page_now c page) ≡ Some ((table c).page page)
unfolding table_of
page_says c p s page is = s.formed.rows (Page page) is

pub page_age : (c : Configuration) (page : ℕ) → age_of ((table c).page page) ≡ age c.pages c.words page
unfolding table_of
page_age c page = λ i. age c.pages c.words page

abbrev pub announced_now : Configuration → ℕ → ℕ
announced_now c worker = word_in c.pages c.words (Announce worker)

pub announced_word : (c : Configuration) (worker : ℕ) → (table c).announced worker ≡ announced_now c worker
unfolding table_of
announced_word c worker = λ i. announced_now c worker
