use Rattle.heap_laws.proofs.Scanning.ScannedRecords.{reads_crossing, reads_first_header, reads_first_mixed, reads_front, reads_next_header, reads_next_mixed, reads_count}
use Rattle.heap_laws.proofs.laws.scanning.records_are_scanned.Goals as goal

pub returns : goal.returns
returns c = record { crossing = reads_crossing; first = reads_first_header; first_mixed = reads_first_mixed; front = reads_front; next = reads_next_header; next_mixed = reads_next_mixed; count = reads_count }
