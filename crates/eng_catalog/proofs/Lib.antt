mod KeyLaws
mod Lists
