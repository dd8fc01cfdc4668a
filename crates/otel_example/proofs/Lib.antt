mod Batches
mod Lists
