-- What the contracts of `cut` cite.
pub mod Cut
