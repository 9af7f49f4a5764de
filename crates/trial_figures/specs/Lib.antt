-- What the contracts of `trial_figures` cite.
pub mod Small
