-- What the contracts of `sneupelaar` cite beside `rules` and `pool`.
pub mod HandedOut
