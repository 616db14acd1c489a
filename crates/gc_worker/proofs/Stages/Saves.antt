pub mod SaveStages
