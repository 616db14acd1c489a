-- No other instruction than `snap` begins a checkpoint.
pub use Rattle.plain_heap.proofs.Calls.OnlySnap.{acts, is_snap, is_snaps, not_snap, snap_acts, snap_takes, snaps_alone}
