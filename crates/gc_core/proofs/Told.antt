pub mod Dumps
pub mod PlaceByPlace
pub mod Readers
pub mod WhatStands
pub mod ToldCheckpoints
