use Rattle.forwarding.proofs.CellLinks.{stores_links_first, links_to_head, links_published, clears_behind_links}
use Rattle.forwarding.proofs.laws.cells_are_linked_by_exchange.Goals as goal

pub returns : goal.returns
returns c = record {
  stores_links_first = stores_links_first;
  links_to_head = links_to_head;
  links_published = links_published;
  clears_behind_links = clears_behind_links;
}
