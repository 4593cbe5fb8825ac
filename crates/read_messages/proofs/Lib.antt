pub mod AtCursor
pub mod FirstPassNames
pub mod FirstPassTells
pub mod SecondPassSlots
pub mod WhatWasTold
pub mod Settled
